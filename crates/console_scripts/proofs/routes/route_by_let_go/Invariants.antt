-- letting go of none of the modifiers below the place leads to where a route begins
use Rattle.console_scripts.proofs.Common.{◌≡◌, ◌<◌, ℕ, None, modifier_index, Holds, with_holder, state_of, HasRoute}
use Rattle.keymap_core.specs.declared.action.Modifier.{Modifier}
use Rattle.console_scripts.proofs.routes.route_by_let_go.Given as goal

abbrev pub invariant-loop-modifier : goal.invariant-loop-modifier
invariant-loop-modifier l =
    (n : ℕ) → n < l.modifier-index → (i : Modifier) → modifier_index i ≡ n → (k : ℕ) → Holds (state_of l.held) k i
    → HasRoute l.routes.entries (with_holder (state_of l.held) i None)
    → ⊥
