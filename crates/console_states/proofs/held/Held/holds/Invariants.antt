-- no modifier below the place is held by the key
use Rattle.console_states.proofs.Common.{◌≡◌, ◌<◌, ℕ, Modifier, modifier_index, Holds, state_of}
use Rattle.console_states.proofs.held.Held.holds.Given as goal

abbrev pub invariant-loop-modifier : goal.invariant-loop-modifier
invariant-loop-modifier l =
    (n : ℕ) → n < l.modifier-index → (i : Modifier) → modifier_index i ≡ n → Holds (state_of l.self) l.key i → ⊥
