use Rattle.std.proofs.Common.{rules}
use Rattle.console_states.proofs.KeyLists.{either-half}
use Rattle.console_states.proofs.key_lists.has.Goals as goal

pub returns-else-has_in_slot : goal.returns-else-has_in_slot
returns-else-has_in_slot c = search (rules, either-half)
