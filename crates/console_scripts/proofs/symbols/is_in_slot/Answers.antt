use Rattle.std.proofs.Common.{rules}
use Rattle.console_scripts.proofs.Common.{below_more}
use Rattle.console_states.proofs.Shared.{get_or_read_under}
use Rattle.console_scripts.proofs.symbols.is_in_slot.Goals as goal

pub loop-cell-preserved : goal.loop-cell-preserved
loop-cell-preserved c = search (rules, get_or_read_under, below_more)

pub returns : goal.returns
returns c = search rules
