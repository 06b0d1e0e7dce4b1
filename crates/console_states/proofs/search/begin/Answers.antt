use Rattle.std.proofs.Common.{rules}
use Rattle.console_states.proofs.Common.{insert_entry-new}
use Rattle.console_states.proofs.search.begin.Goals as goal

pub returns : goal.returns
returns c = search (rules, insert_entry-new)
