use Rattle.std.proofs.Common.{rules}
use Rattle.keymap_diff.proofs.CanShow.{slots-clear}
use Rattle.keymap_diff.proofs.showing.Both.can_key_show.Goals as goal

pub returns-else-can_show_in_slot : goal.returns-else-can_show_in_slot
returns-else-can_show_in_slot c = search (rules, slots-clear)
