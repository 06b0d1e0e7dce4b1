use Rattle.keymap_lint.proofs.Common.{◌≡◌, ◌≤◌, array_vec_len, gathered, missing_slot}
use Rattle.keymap_lint.proofs.half_defined.undefined_halves.Given as goal

-- the missing slots among those so far
abbrev pub invariant-loop-number : goal.invariant-loop-number
invariant-loop-number l = record {
  found : l.slots.items ≡ gathered (missing_slot l.text) l.number;
  room : array_vec_len l.slots ≤ l.number;
}
