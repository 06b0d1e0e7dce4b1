use Rattle.std.proofs.Common.{ℕ, ◌<◌, ◌/◌, ◌%◌}
use Rattle.console_states.specs.Sights.{AreSightsOf}
use Rattle.keymap_diff.specs.Changes.{MeetsDeadKeyAt}
use Rattle.keymap_diff.proofs.unseen.sees_dead_key.Given as goal

-- no press looks up the dead key at the places so far
abbrev pub invariant-loop-place : goal.invariant-loop-place
invariant-loop-place l =
    AreSightsOf l.map l.sights → (k : ℕ) → k < l.place → MeetsDeadKeyAt l.accent l.map (k / 8) (k % 8) → ⊥
