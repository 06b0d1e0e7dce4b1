use Rattle.keymap_tables.proofs.Common.{◌≡◌, ℕ, ◌-◌, ◌<◌, ◌≤◌, length, slice_index}
use Rattle.keymap_tables.proofs.number.past_zeros.Given as goal

-- The bytes passed are 0.
abbrev pub invariant-loop-place : goal.invariant-loop-place
invariant-loop-place l = record {
  past : l.from ≤ l.place;
  inside : l.place ≤ length l.bytes;
  zeros : (p : ℕ) → l.from ≤ p → p < l.place → slice_index l.bytes p ≡ 0;
}

abbrev pub decreases-loop-place : goal.decreases-loop-place
decreases-loop-place l = length l.bytes - l.place
