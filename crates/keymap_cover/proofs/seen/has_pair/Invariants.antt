-- no pair below the place is the one that is looked for
use Rattle.keymap_cover.proofs.Common.{◌≡◌, ◌<◌, ℕ, get_or}
use Rattle.keymap_cover.proofs.seen.has_pair.Given as goal

abbrev pub invariant-loop-other : goal.invariant-loop-other
invariant-loop-other l = (n : ℕ) → n < l.other-index → get_or l.pairs n l.pair ≡ l.pair → ⊥
