-- A text's row of definitions, and the map that the last definitions make.
use Rattle.std.specs.Prelude.{◌≡◌, ◌≢◌, ℕ, ◌+◌, ◌<◌, ◌≤◌, if◌then◌else◌, ◌==◌, max, List, [], ◌∷◌, ◌++◌, length, map}
use Rattle.std.specs.Prelude.{Option, Some, None, Ok}
use Rattle.std.specs.List.{range_with_len}
use Rattle.std.specs.Option.{option_or}
use Rattle.keymap_text.specs.Types.{Entry, Cell, Action, Number, Act, Letter, Item, Open, Close, Value}
use Rattle.keymap_core.specs.Accents.{AccentValue, blank}
use Rattle.keymap_core.specs.Maps.{MapValue, undefined}
use Rattle.keymap_core.specs.Numbers.{slot_limit, column_count, pair_limit}
use Rattle.keymap_text.specs.Items.{character, cell, accent_index}

pub data Definition : Type 0 where
  KeyDefinition : ℕ → Entry → Definition
  AccentDefinition : ℕ → AccentValue → Definition

-- each token is one cell
pub data AreCells : List Item → List Cell → Type 0 where
  no_cells : AreCells [] []
  one_cell : {t : Item} {c : Cell} {ts : List Item} {cs : List Cell} → cell t ≡ Ok c → AreCells ts cs
      → AreCells (t ∷ ts) (c ∷ cs)

-- `( base result )` for each pair, no base being 0
pub data ArePairs : List Item → List (ℕ × ℕ) → Type 0 where
  no_pairs : ArePairs [] []
  one_pair : {t u : Item} {base result : ℕ} {ts : List Item} {ps : List (ℕ × ℕ)} → character t ≡ Ok base → base ≢ 0
      → character u ≡ Ok result → ArePairs ts ps
      → ArePairs (Open ∷ t ∷ u ∷ Close ∷ ts) ((base, result) ∷ ps)

-- The tokens of one definition: a slot, eight cells and a lock letter; or an accent's name, its character and up to
-- 52 pairs.
pub data Defines : List Item → Definition → Type 0 where
  of_key : {slot : ℕ} {e : Entry} {ts : List Item} → slot < slot_limit
      → length e.cells ≡ column_count → AreCells ts e.cells
      → Defines (Value (Number slot) ∷ (ts ++ Value (Letter e.flag) ∷ [])) (KeyDefinition slot e)
  of_accent : {i : ℕ} {a : AccentValue} {t : Item} {ts : List Item} → (name : Action) → accent_index name ≡ Some i
      → character t ≡ Ok a.own → length a.pairs ≤ pair_limit → ArePairs ts a.pairs
      → Defines (Value (Act name) ∷ t ∷ ts) (AccentDefinition i a)

-- the tokens of definitions, one after the other
pub data IsRow : List Item → List Definition → Type 0 where
  no_definition : IsRow [] []
  one_definition : {ts us : List Item} {d : Definition} {ds : List Definition} → Defines ts d → IsRow us ds
      → IsRow (ts ++ us) (d ∷ ds)

-- what a definition says of a slot, and of an accent
abbrev pub of_slot : ℕ → Definition → Option Entry
of_slot slot (KeyDefinition s e) = if s == slot then Some e else None
of_slot slot (AccentDefinition i a) = None

abbrev pub of_index : ℕ → Definition → Option AccentValue
of_index i (KeyDefinition s e) = None
of_index i (AccentDefinition j a) = if j == i then Some a else None

-- what the last one says that says anything
unfoldable pub last : {A : Type 0} → (Definition → Option A) → List Definition → Option A
last says [] = None
last says (d ∷ ds) = option_or (last says ds) (says d)

-- how many slots, and how many accents, the definition needs
abbrev pub slots_needed : Definition → ℕ
slots_needed (KeyDefinition s e) = s + 1
slots_needed (AccentDefinition i a) = 0

abbrev pub accents_needed : Definition → ℕ
accents_needed (KeyDefinition s e) = 0
accents_needed (AccentDefinition i a) = i + 1

unfoldable pub greatest : (Definition → ℕ) → List Definition → ℕ
greatest f [] = 0
greatest f (d ∷ ds) = max (f d) (greatest f ds)

abbrev pub or_default : {A : Type 0} → Option A → A → A
or_default (Some x) d = x
or_default None d = d

-- Each entry and accent is what its last definition says, else undefined, up to the greatest that is defined.
abbrev pub map_of : List Definition → MapValue
map_of ds = record {
  entries = map (λ slot. or_default (last (of_slot slot) ds) undefined) (range_with_len 0 (greatest slots_needed ds));
  accents = map (λ i. or_default (last (of_index i) ds) blank) (range_with_len 0 (greatest accents_needed ds));
}
