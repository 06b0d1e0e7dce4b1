use Rattle.keymap_tables.proofs.Common.{◌≡◌, ℕ, ◌<◌, ◌≤◌, slice_index}
use Rattle.keymap_tables.proofs.number.check_zeros.Given as goal

-- The bytes passed are 0.
abbrev pub invariant-loop-place : goal.invariant-loop-place
invariant-loop-place l = (p : ℕ) → l.from ≤ p → p < l.place → slice_index l.bytes p ≡ 0
