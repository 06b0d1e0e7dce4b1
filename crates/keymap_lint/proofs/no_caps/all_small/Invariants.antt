use Rattle.keymap_lint.proofs.Common.{◌≡◌, ◌≤◌, array_vec_len, gathered}
use Rattle.keymap_lint.specs.Shifted.{small_slot}
use Rattle.keymap_lint.proofs.no_caps.all_small.Given as goal

-- those among the slots so far
abbrev pub invariant-loop-number : goal.invariant-loop-number
invariant-loop-number l = record {
  found : l.slots.items ≡ gathered (small_slot l.text) l.number;
  room : array_vec_len l.slots ≤ l.number;
}
