use Rattle.console_scripts.proofs.Common.{rules, push-reversed}
use Rattle.console_scripts.proofs.showing.tap.Goals as goal

pub returns : goal.returns
returns c = search (rules, push-reversed)
