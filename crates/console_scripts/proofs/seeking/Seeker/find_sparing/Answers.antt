use Rattle.std.proofs.Common.{rules}
use Rattle.std.proofs.lemmas.Result.{IfOk-weaker}
use Rattle.console_scripts.proofs.Picking.{looked-one, looked-two}
use Rattle.console_scripts.proofs.seeking.Seeker.find_sparing.Goals as goal

pub returns-then-class-clause-looked : goal.returns-then-class-clause-looked
returns-then-class-clause-looked c = search (rules, IfOk-weaker, looked-one)

pub returns-else-class-clause-looked : goal.returns-else-class-clause-looked
returns-else-class-clause-looked c = search (rules, IfOk-weaker, looked-two)
