use Rattle.keymap_tables.proofs.Common.{◌≢◌, ℕ, ◌<◌, base_at}
use Rattle.keymap_tables.proofs.read_accent.count_pairs.Given as goal

-- The bases passed aren't 0.
abbrev pub invariant-loop-pair : goal.invariant-loop-pair
invariant-loop-pair l = (pair : ℕ) → pair < l.pair → base_at l.layout l.bytes pair ≢ 0
