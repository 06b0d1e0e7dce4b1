use Rattle.keymap_lint.proofs.Common.{◌≡◌, ◌≤◌, array_vec_len, gathered}
use Rattle.keymap_lint.specs.Kinds.{slot_above}
use Rattle.keymap_lint.proofs.unused_half.slots_above.Given as goal

-- the slots from 128 on of the keys so far
abbrev pub invariant-loop-key : goal.invariant-loop-key
invariant-loop-key l = record {
  found : l.slots.items ≡ gathered (slot_above l.text) l.key;
  room : array_vec_len l.slots ≤ l.key;
}
