use Rattle.keymap_lint.proofs.Common.{◌≡◌, ◌≤◌, array_vec_len, gathered}
use Rattle.keymap_lint.specs.Letters.{slot_left_out}
use Rattle.keymap_lint.proofs.gap.left_out.Given as goal

-- the slots that are left out among those so far
abbrev pub invariant-loop-slot : goal.invariant-loop-slot
invariant-loop-slot l = record {
  found : l.slots.items ≡ gathered (slot_left_out l.text) l.slot;
  room : array_vec_len l.slots ≤ l.slot;
}
