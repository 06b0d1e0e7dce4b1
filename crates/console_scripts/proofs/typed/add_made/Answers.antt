use Rattle.std.proofs.Common.{rules}
use Rattle.console_scripts.proofs.Common.{none-some}
use Rattle.console_scripts.proofs.Tapping.{made-none, made-one}
use Rattle.console_scripts.proofs.typed.add_made.Goals as goal

pub returns-then-not-has : goal.returns-then-not-has
returns-then-not-has c = search (rules, made-none)

pub returns-in_default : goal.returns-in_default
returns-in_default c = search (rules, made-none, none-some)

pub returns : goal.returns
returns c = search (rules, made-one)
