-- no pair so far has the character
use Rattle.console_scripts.proofs.Common.{◌≡◌, ℕ, ◌<◌, get_or}
use Rattle.console_scripts.proofs.making.gives.Given as goal

abbrev pub invariant-loop-pair : goal.invariant-loop-pair
invariant-loop-pair l = (n : ℕ) → n < l.pair-index → (get_or l.accent.pairs n (0, 0)).1 ≡ l.character → ⊥
