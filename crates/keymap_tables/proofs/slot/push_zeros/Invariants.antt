use Rattle.keymap_tables.proofs.Common.{◌≡◌, ◌-◌, ◌≤◌, ◌++◌, array_vec_len, zeros}
use Rattle.keymap_tables.proofs.slot.push_zeros.Given as goal

-- The zeros so far were appended.
abbrev pub invariant-loop-image : goal.invariant-loop-image
invariant-loop-image g l = record {
  longer : array_vec_len l.initial.image ≤ array_vec_len l.image;
  short : array_vec_len l.image ≤ l.length;
  zeros : l.image.items ≡ l.initial.image.items ++ zeros (array_vec_len l.image - array_vec_len l.initial.image);
}

abbrev pub decreases-loop-image : goal.decreases-loop-image
decreases-loop-image g l = l.length - array_vec_len l.image
