-- What the walk of src/content.rt over a table file without a fault leaves in what takes definitions (`Definitions` of
-- keymap_core): `shows` says which maps it shows, of it before and behind the walk.
use Rattle.std.specs.Prelude.{◌≡◌, ℕ, ◌<◌, List, [], length, All}
use Rattle.keymap_core.specs.Accents.{AccentValue}
use Rattle.keymap_core.specs.Bounds.{IsEntry, IsAccent, IsMap}
use Rattle.keymap_core.specs.Maps.{MapValue}
use Rattle.keymap_tables.specs.Types.{Entry, Layout}
use Rattle.keymap_tables.specs.Faults.{FaultOf}
use Rattle.keymap_tables.specs.Fits.{EntryFits, AccentFits, FitsIn}
use Rattle.keymap_tables.specs.Image.{image_in, zeros}
use Rattle.keymap_tables.specs.Inner.Firsts.{HasNoFault}

-- the map of these entries and accents
abbrev pub made_of : List Entry → List AccentValue → MapValue
made_of entries accents = record { entries = entries; accents = accents }

-- an entry or an accent that a file of the layout can have
abbrev pub IsEntryIn : Layout → Entry → Type 0
IsEntryIn l entry = IsEntry entry × EntryFits l entry

abbrev pub IsAccentIn : Layout → AccentValue → Type 0
IsAccentIn l accent = IsAccent accent × AccentFits l accent

-- Images of one size, which tell the rows that a file can have apart, and faults that none of these has.
pub record AreRows {X : Type 0} (row : X → List ℕ) (size : ℕ) (fault_in : List ℕ → FaultOf) (Is : X → Type 0)
    (blank : X) : Type 0 where
  pub some : 0 < size
  pub whole : (x : X) → Is x → length (row x) ≡ size
  pub sound : (x : X) → Is x → HasNoFault (fault_in (row x)) size
  pub one : (x y : X) → Is x → Is y → row x ≡ row y → x ≡ y
  pub empty : row blank ≡ zeros size

-- The rows of which the bytes are the image, so many: they were put into a map of no such rows.
abbrev pub TakesRows : {D X : Type 0} → (D → MapValue → Type 0) → D → D → (MapValue → List X → MapValue)
    → (X → Type 0) → (ℕ → Type 0) → (List X → List ℕ) → List ℕ → Type 0
TakesRows {X = X} shows old new put Is Many image bytes =
    (xs : List X) × Many (length xs) × (bytes ≡ image xs) × All Is xs
    × ((m : MapValue) → shows old (put m []) → shows new (put m xs))

-- The map whose image the bytes are: all of it was put into the map of no keys.
abbrev pub TakesFile : {D : Type 0} → (D → MapValue → Type 0) → D → D → Layout → List ℕ → Type 0
TakesFile shows old new l bytes =
    (m : MapValue) × IsMap m × FitsIn l m × (bytes ≡ image_in l m) × (shows old (made_of [] []) → shows new m)
