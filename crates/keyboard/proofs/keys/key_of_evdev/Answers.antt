use Rattle.std.proofs.Common.{arith}
use Rattle.std.proofs.lemmas.Grind.{common_steps}
use Rattle.keyboard.proofs.Told.{found, told_by}
use Rattle.keyboard.proofs.keys.key_of_evdev.Goals as goal

pub returns-in-Some-clause-has : goal.returns-in-Some-clause-has
returns-in-Some-clause-has c = grind (arith, common_steps, told_by c.in-Some.code c.args.number)

pub returns-in-Some-clause-key : goal.returns-in-Some-clause-key
returns-in-Some-clause-key c = λ k has. grind (arith, common_steps, found k c.args.number has)

pub returns-in_default-clause-key : goal.returns-in_default-clause-key
returns-in_default-clause-key c = λ k has. grind (arith, common_steps, found k c.args.number has)
