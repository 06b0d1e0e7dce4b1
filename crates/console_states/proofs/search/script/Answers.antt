use Rattle.std.proofs.Common.{rules}
use Rattle.console_states.proofs.GoingBack.{script-is}
use Rattle.console_states.proofs.search.script.Goals as goal

pub returns : goal.returns
returns c = search (rules, script-is)
