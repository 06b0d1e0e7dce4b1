-- The tables of the last definitions. Mirrors `LastDefinitions` of src/last.rt.
use Rattle.std.specs.Prelude.{◌≡◌, ◌<◌, ℕ, List, length, slice_index_or, None}
use Rattle.keymap_core.specs.Numbers.{slot_limit, accent_limit}
use Rattle.keymap_places.specs.Types.{Placed, Slot, Accent}
use Rattle.keymap_places.specs.declared.last.LastDefinitions.{LastDefinitions}
use Rattle.keymap_places.specs.Placed.{last_of}

-- the tables have the last definition of each slot and each accent
pub record HasLast (last : LastDefinitions) (ds : List Placed) : Type 0 where
  pub slots_length : length last.slots ≡ slot_limit
  pub accents_length : length last.accents ≡ accent_limit
  pub slots : (s : ℕ) → s < slot_limit → slice_index_or last.slots s None ≡ last_of (Slot s) ds
  pub accents : (i : ℕ) → i < accent_limit → slice_index_or last.accents i None ≡ last_of (Accent i) ds
