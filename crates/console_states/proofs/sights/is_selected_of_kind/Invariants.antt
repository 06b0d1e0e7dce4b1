-- no press sees it under a selection below the place
use Rattle.console_states.proofs.Common.{◌≡◌, ◌<◌, ℕ, get_or, key_count, Selection, SeesBy}
use Rattle.console_states.proofs.sights.is_selected_of_kind.Given as goal

abbrev pub invariant-loop-selection : goal.invariant-loop-selection
invariant-loop-selection l =
    (n : ℕ) → n < l.selection-index → (y : Selection) → get_or l.selections n y ≡ y → (k : ℕ) → k < key_count
    → SeesBy l.map y k l.sight → ⊥
