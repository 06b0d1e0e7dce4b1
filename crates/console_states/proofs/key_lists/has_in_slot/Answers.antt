use Rattle.std.proofs.Common.{rules}
use Rattle.console_states.proofs.Common.{below_more}
use Rattle.console_states.proofs.Common.{get_or_read_under}
use Rattle.console_states.proofs.key_lists.has_in_slot.Goals as goal

pub loop-cell-preserved : goal.loop-cell-preserved
loop-cell-preserved c = search (rules, get_or_read_under, below_more)

pub returns : goal.returns
returns c = search rules
