use Rattle.console_scripts.proofs.Visitable.{seen_can_be_visited}
use Rattle.console_scripts.proofs.laws.what_is_seen_can_be_visited.Goals as goal

pub returns : goal.returns
returns c = seen_can_be_visited
