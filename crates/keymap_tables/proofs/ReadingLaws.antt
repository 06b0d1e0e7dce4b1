-- What the reading of a file answers is the map of the image, or the one fault.
use Rattle.keymap_tables.proofs.Common.{◌≡◌, ℕ, ◌<◌, List, None, Some, sym, ◌∙◌, subst, arith, Result, Ok, Err, Option}
use Rattle.keymap_tables.proofs.Common.{All-weaker, AccentValue, MapValue, IsCell, IsEntry, IsAccent, IsMap, IsScalar}
use Rattle.keymap_tables.proofs.Common.{Cell, Char, Act, Entry, Layout, TableFault, TableFaultKind, IsFirstFault, rules}
use Rattle.keymap_tables.proofs.Common.{fault_at, CellFits, EntryFits, AccentFits, FitsIn, image_in, numbers_of, wide}
use Rattle.keymap_tables.proofs.Common.{number_limit, Wide, Narrow}
use Rattle.keymap_tables.specs.Fits.{AreTablesOf}
use Rattle.keymap_tables.specs.Types.{TableError, Memory, Read, Fault}
use Rattle.keymap_tables.specs.Readings.{IsReadingIn, AnswersMap, AnswersFault}
use Rattle.keymap_tables.proofs.AccentImages.{numbers-known}
use Rattle.keymap_tables.proofs.Images.{image-sound, same-map}
use Rattle.keymap_tables.proofs.SlotImages.{scalar-small}

-- Every map fits in the wide file.
cell-wide : (cell : Cell) → IsCell cell → CellFits wide cell
cell-wide (Char c) known = scalar-small c known
cell-wide (Act a) known = omega arith

-- each known entry fits a wide slot
pub entry-wide : (entry : Entry) → IsEntry entry → EntryFits wide entry
entry-wide entry known = All-weaker IsCell (CellFits wide) cell-wide entry.cells known.cells

-- each known accent fits wide numbers
pub accent-wide : (accent : AccentValue) → IsAccent accent → AccentFits wide accent
accent-wide accent known =
    All-weaker IsScalar (λ n. n < number_limit wide) scalar-small (numbers_of accent) (numbers-known accent known)

-- each map fits a wide table
pub map-wide : (m : MapValue) → IsMap m → FitsIn wide m
map-wide m is = search (rules, All-weaker, entry-wide, accent-wide)

-- tables of a map are its image in a layout that it fits in
pub tables-in : (l : Layout) (bytes : List ℕ) (m : MapValue) → IsMap m → AreTablesOf l bytes m
    → FitsIn l m × (bytes ≡ image_in l m)
tables-in Wide bytes m is are = (map-wide m is, are)
tables-in Narrow bytes m is are = are

-- the same of a layout that is this one
pub tables-at : (l k : Layout) (bytes : List ℕ) (m : MapValue) → k ≡ l → IsMap m → AreTablesOf l bytes m
    → FitsIn k m × (bytes ≡ image_in k m)
tables-at l k bytes m e is are =
    subst (λ (v : Layout). FitsIn v m × (bytes ≡ image_in v m)) (sym e) (tables-in l bytes m is are)

-- no kind is both there and missing
pub some_none : (kind : TableFaultKind) (o : Option TableFaultKind) → o ≡ Some kind → o ≡ None → ⊥
some_none kind o some none = cc

-- No image has a fault.
pub no-fault : (l : Layout) (m : MapValue) (f : TableFault) → IsMap m → FitsIn l m
    → IsFirstFault (fault_at l (image_in l m)) f → ⊥
no-fault l m f is fits fault =
    some_none f.kind (fault_at l (image_in l m) f.offset) fault.here (image-sound l m is fits f.offset)

-- A file has one fault.
pub one-fault : (at : ℕ → Option TableFaultKind) (f g : TableFault) → IsFirstFault at f → IsFirstFault at g → f ≡ g
one-fault at f g first second = grind arith

-- Reading the image of a map that fits gives the map.
pub reading-image : (l : Layout) (bytes : List ℕ) (r : Result MapValue TableError) → IsReadingIn l bytes r
    → (m : MapValue) → IsMap m → FitsIn l m → bytes ≡ image_in l m → AnswersMap r m
reading-image l bytes (Ok n) reading m is fits same = same-map l n m reading.0 reading.2 is fits (sym reading.1 ∙ same)
reading-image l bytes (Err Memory) reading m is fits same = tt
reading-image l bytes (Err (Read f)) reading m is fits same = absurd reading
reading-image l bytes (Err (Fault f)) reading m is fits same =
    no-fault l m f is fits (subst (λ (v : List ℕ). IsFirstFault (fault_at l v) f) same reading)

-- Reading bytes with a fault gives the fault.
pub reading-fault : (l : Layout) (bytes : List ℕ) (r : Result MapValue TableError) → IsReadingIn l bytes r
    → (f : TableFault) → IsFirstFault (fault_at l bytes) f → AnswersFault r f
reading-fault l bytes (Ok n) reading f fault =
    no-fault l n f reading.0 reading.2 (subst (λ (v : List ℕ). IsFirstFault (fault_at l v) f) reading.1 fault)
reading-fault l bytes (Err Memory) reading f fault = tt
reading-fault l bytes (Err (Read g)) reading f fault = absurd reading
reading-fault l bytes (Err (Fault g)) reading f fault = one-fault (fault_at l bytes) g f reading fault
