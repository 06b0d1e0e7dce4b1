-- The bytes of a table file, as one list by its parts.
use Rattle.std.specs.Prelude.{ℕ, ◌+◌, ◌-◌, ◌*◌, List, [], ◌∷◌, ◌++◌, length, replicate, fold, Bool, true, false}
use Rattle.std.specs.Prelude.{if◌then◌else◌}
use Rattle.std.specs.List.{flat_map}
use Rattle.std.specs.Int.{to_le_bytes, w16}
use Rattle.keymap_core.specs.Accents.{AccentValue}
use Rattle.keymap_core.specs.Actions.{code_of}
use Rattle.keymap_core.specs.Maps.{MapValue}
use Rattle.keymap_core.specs.Numbers.{slot_limit, accent_limit}
use Rattle.keymap_tables.specs.Types.{Cell, Char, Act, Entry, LockFlag, Layout}
use Rattle.keymap_core.specs.declared.entry.LockFlag.TheVariants as flag
use Rattle.keymap_tables.specs.Layouts.{wide, narrow, number_width, number_size, number_count, pad_size, slot_size}
use Rattle.keymap_tables.specs.Layouts.{accent_size}

abbrev pub zeros : ℕ → List ℕ
zeros n = replicate n 0

-- a count, and the pads
abbrev pub count_bytes : Layout → ℕ → List ℕ
count_bytes l n = to_le_bytes w16 n ++ zeros (pad_size l)

abbrev pub number_bytes : Layout → ℕ → List ℕ
number_bytes l n = to_le_bytes (number_width l) n

-- a cell is a character's number or an action's code
abbrev pub number_of : Cell → ℕ
number_of (Char c) = c
number_of (Act a) = code_of a

abbrev pub is_act : Cell → Bool
is_act (Char c) = false
is_act (Act a) = true

abbrev pub cell_bytes : Layout → Cell → List ℕ
cell_bytes l cell = number_bytes l (number_of cell)

-- a bit for each cell, the first cell's the highest: set where the cell is an action
abbrev pub marks_of : List Cell → ℕ
marks_of cells = fold (λ n cell. 2 * n + (if is_act cell then 1 else 0)) 0 cells

abbrev pub flag_number : LockFlag → ℕ
flag_number flag.O = 0
flag_number flag.C = 1
flag_number flag.N = 2
flag_number flag.B = 3

-- rows one after the other, and zeros in place of those up to the limit
abbrev pub rows_bytes : {X : Type 0} → (X → List ℕ) → ℕ → ℕ → List X → List ℕ
rows_bytes row size most xs = flat_map row xs ++ zeros (size * (most - length xs))

-- a count, and so many rows
abbrev pub table_bytes : {X : Type 0} → Layout → (X → List ℕ) → ℕ → ℕ → List X → List ℕ
table_bytes l row size most xs = count_bytes l (length xs) ++ rows_bytes row size most xs

-- a slot: its cells, the marks, the flag, and the pads
abbrev pub slot_bytes : Layout → Entry → List ℕ
slot_bytes l entry =
    flat_map (cell_bytes l) entry.cells ++ marks_of entry.cells ∷ flag_number entry.flag ∷ zeros (pad_size l)

-- the own character of an accent, and the base and the result of each pair in turn
abbrev pub numbers_of : AccentValue → List ℕ
numbers_of accent = accent.own ∷ flat_map (λ pair. pair.0 ∷ pair.1 ∷ []) accent.pairs

-- an accent: its numbers
abbrev pub accent_bytes : Layout → AccentValue → List ℕ
accent_bytes l accent = rows_bytes (number_bytes l) (number_size l) number_count (numbers_of accent)

-- the slots, and then the accents, each after its count
unfoldable pub image_in : Layout → MapValue → List ℕ
image_in l m =
    table_bytes l (slot_bytes l) (slot_size l) slot_limit m.entries
    ++ table_bytes l (accent_bytes l) (accent_size l) accent_limit m.accents

-- the one image of a map
abbrev pub image : MapValue → List ℕ
image m = image_in wide m

-- the one narrow image of a map that fits
abbrev pub narrow_image : MapValue → List ℕ
narrow_image m = image_in narrow m
