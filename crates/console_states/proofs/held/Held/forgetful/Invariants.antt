-- no holder of a modifier below the place looks up a character
use Rattle.console_states.proofs.Common.{◌≡◌, ◌<◌, ℕ, Modifier, modifier_index, HolderForgets, state_of, under_of}
use Rattle.console_states.proofs.held.Held.forgetful.Given as goal

abbrev pub invariant-loop-modifier : goal.invariant-loop-modifier
invariant-loop-modifier l =
    (n : ℕ) → n < l.modifier-index → (i : Modifier) → modifier_index i ≡ n → (k : ℕ)
    → HolderForgets (under_of l.maps) (state_of l.self) i k → ⊥
