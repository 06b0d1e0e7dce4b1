-- no modifier below the place is held by the key
use Rattle.std.proofs.Common.{◌≡◌, ◌<◌, ℕ}
use Rattle.keymap_core.specs.Actions.{modifier_index}
use Rattle.keymap_core.specs.declared.action.Modifier.{Modifier}
use Rattle.console_states.specs.Moves.{Holds}
use Rattle.console_states.specs.Searching.{state_of}
use Rattle.keymap_diff.proofs.showing.held_by.Given as goal

abbrev pub invariant-loop-modifier : goal.invariant-loop-modifier
invariant-loop-modifier l =
    (n : ℕ) → n < l.modifier-index → (i : Modifier) → modifier_index i ≡ n → Holds (state_of l.held) l.key i → ⊥
