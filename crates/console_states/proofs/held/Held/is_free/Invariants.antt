-- no modifier below the place is held
use Rattle.console_states.proofs.Common.{◌≡◌, ◌<◌, ℕ, None, Modifier, modifier_index, state_of}
use Rattle.console_states.proofs.held.Held.is_free.Given as goal

abbrev pub invariant-loop-modifier : goal.invariant-loop-modifier
invariant-loop-modifier l =
    (n : ℕ) → n < l.modifier-index → (i : Modifier) → modifier_index i ≡ n → (state_of l.self).holder i ≡ None
