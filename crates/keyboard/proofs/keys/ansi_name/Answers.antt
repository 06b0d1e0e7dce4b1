use Rattle.std.proofs.Common.{arith}
use Rattle.std.proofs.lemmas.Bool.Decides.{nat_tests}
use Rattle.std.proofs.lemmas.Grind.{common_steps}
use Rattle.keyboard.proofs.Told.{ansi_name}
use Rattle.keyboard.proofs.keys.ansi_name.Goals as goal

pub returns-in-86 : goal.returns-in-86
returns-in-86 c = grind (arith, nat_tests, common_steps, ansi_name 86)

pub returns-in-93 : goal.returns-in-93
returns-in-93 c = grind (arith, nat_tests, common_steps, ansi_name 93)

pub returns-in_default : goal.returns-in_default
returns-in_default c = grind (arith, nat_tests, common_steps, ansi_name)
