-- The table of the last definitions.
use Rattle.keymap_lint.proofs.Common.{◌≡◌, ◌<◌, ℕ, List, get_or, ap, ◌∙◌, None, arith, get_or-map-range_with_len, Slot}
use Rattle.keymap_lint.proofs.Common.{Placed, last_of}
use Rattle.keymap_places.specs.declared.last.LastDefinitions.{LastDefinitions}
use Rattle.keymap_lint.specs.Spelled.{HasLast}

pub slot_in : (last : LastDefinitions) (ds : List Placed) → HasLast last ds → (s : ℕ) → s < 256
    → get_or last.slots s None ≡ last_of (Slot s) ds
slot_in last ds h s l =
    ap (λ t. get_or t s None) h.slots
    ∙ get_or-map-range_with_len (λ n. last_of (Slot n) ds) 0 256 s s None l (omega arith)
