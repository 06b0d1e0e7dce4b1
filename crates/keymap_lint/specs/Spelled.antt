-- A text that spells a map: its definitions, the cells that count, and where they stand.
use Rattle.std.specs.Prelude.{◌≡◌, ℕ, ◌+◌, ◌-◌, ◌==◌, Bool, false, ◌||◌, nat_lt, if◌then◌else◌, List, [], map}
use Rattle.std.specs.Prelude.{slice_index_or, take, drop, Option, Some, None, All}
use Rattle.std.specs.List.{flat_map, range_with_len}
use Rattle.keymap_core.specs.Maps.{MapValue, cell_at}
use Rattle.keymap_lint.specs.Types.{Cell, Span, Defined, Slot, Accent, Placed, CellInForce}
use Rattle.keymap_core.specs.Borne.{is_upper_live}
use Rattle.keymap_core.specs.Numbers.{key_count, column_count, slot_limit, accent_limit}
use Rattle.keymap_places.specs.declared.last.LastDefinitions.{LastDefinitions}
use Rattle.keymap_places.specs.Placed.{last_of, HasIndex}

-- a text and what it spells: its definitions in order, where each token stands, and the map
pub record Spelled : Type 0 where
  pub text : List ℕ
  pub definitions : List Placed
  pub spans : List Span
  pub map : MapValue

-- the place of the token with this number
abbrev pub span_at : List Span → ℕ → Span
span_at spans n = slice_index_or spans n (record { start = 0; end = 0 })

abbrev pub offset_at : Spelled → ℕ → ℕ
offset_at t n = (span_at t.spans n).start

-- the bytes of a span
abbrev pub bytes_at : List ℕ → Span → List ℕ
bytes_at text s = take (s.end - s.start) (drop s.start text)

-- the definition is the last one of what it defines
abbrev pub is_last : Placed → Option Placed → Bool
is_last p (Some q) = q.first == p.first
is_last p None = false

abbrev pub is_in_force : Spelled → Placed → Bool
is_in_force t p = is_last p (last_of p.what t.definitions)

-- the cell in a column of a slot's definition; the cells stand behind its first token
abbrev pub cell_in : Spelled → ℕ → ℕ → ℕ → CellInForce
cell_in t slot first column = record {
  slot = slot;
  column = column;
  span = span_at t.spans (first + (1 + column));
}

abbrev pub cells_defined : Spelled → Defined → ℕ → List CellInForce
cells_defined t (Slot slot) first = map (cell_in t slot first) (range_with_len 0 column_count)
cells_defined t (Accent i) first = []

abbrev pub cells_of : Spelled → Placed → List CellInForce
cells_of t p = if is_in_force t p then cells_defined t p.what p.first else []

-- the cells of the definitions in force, in the order of the text
abbrev pub cells_in_force : Spelled → List CellInForce
cells_in_force t = flat_map (cells_of t) t.definitions

-- what stands in the cell
abbrev pub content : Spelled → CellInForce → Cell
content t c = cell_at t.map c.slot c.column

-- the slots from 128 on are live only where some cell selects them
abbrev pub is_live : Spelled → ℕ → Bool
is_live t slot = nat_lt slot key_count || is_upper_live t.map

-- the table has the last definition of each slot and of each accent
pub record HasLast (last : LastDefinitions) (definitions : List Placed) : Type 0 where
  pub slots : last.slots ≡ map (λ slot. last_of (Slot slot) definitions) (range_with_len 0 slot_limit)
  pub accents : last.accents ≡ map (λ i. last_of (Accent i) definitions) (range_with_len 0 accent_limit)

-- The definitions are of slots and accents that there are.
abbrev pub AreDefined : Spelled → Type 0
AreDefined t = All (λ p. HasIndex p.what) t.definitions
