-- The printed form of a map.
use Rattle.std.specs.Prelude.{ℕ, ◌+◌, ◌-◌, ◌/◌, ◌%◌, if◌then◌else◌, ◌==◌, ◌||◌, nat_lt, List, [], ◌∷◌, ◌++◌, length}
use Rattle.std.specs.Prelude.{replicate, codes, slice_index_or}
use Rattle.std.specs.List.{flat_map, range_with_len}
use Rattle.keymap_core.specs.Accents.{AccentValue, blank}
use Rattle.keymap_core.specs.Actions.{name_of, accent_names}
use Rattle.keymap_core.specs.CodePoints.{code_digits}
use Rattle.keymap_core.specs.Maps.{MapValue, entry_at}
use Rattle.keymap_text.specs.Types.{Entry, Cell, LockFlag}
use Rattle.keymap_core.specs.declared.entry.Cell.TheVariants as cells
use Rattle.keymap_core.specs.declared.entry.LockFlag.TheVariants as flags
use Rattle.keymap_text.specs.Words.{control_names}

abbrev pub control_name : ℕ → List ℕ
control_name c = if c == 127 then codes "del" else slice_index_or control_names c []

-- a name for a control character, between apostrophes where it is one of ASCII else, and a number for all others
unfoldable pub character_text : ℕ → List ℕ
character_text c =
    if nat_lt c 32 || c == 127 then control_name c
    else if nat_lt c 127 then 39 ∷ c ∷ 39 ∷ []
    else codes "0x" ++ code_digits c

abbrev pub cell_text : Cell → List ℕ
cell_text (cells.Char c) = character_text c
cell_text (cells.Act a) = name_of a

-- filled on the right with blanks to six places
abbrev pub filled : List ℕ → List ℕ
filled text = text ++ replicate (6 - length text) 32

-- a blank before it
abbrev pub column : List ℕ → List ℕ
column text = codes " " ++ filled text

-- without blanks behind it
abbrev pub word : List ℕ → List ℕ
word text = codes " " ++ text

abbrev pub flag_letter : LockFlag → ℕ
flag_letter flags.O = 79
flag_letter flags.C = 67
flag_letter flags.N = 78
flag_letter flags.B = 66

-- three decimal digits
abbrev pub slot_text : ℕ → List ℕ
slot_text s = (48 + s / 100) ∷ (48 + s / 10 % 10) ∷ (48 + s % 10) ∷ []

unfoldable pub key_line : ℕ → Entry → List ℕ
key_line slot e =
    slot_text slot ++ (flat_map (λ c. column (cell_text c)) e.cells ++ (codes " " ++ flag_letter e.flag ∷ codes "\n"))

-- the words of a key's line, with one blank between them
unfoldable pub slot_words : ℕ → Entry → List ℕ
slot_words slot e =
    slot_text slot ++ (flat_map (λ c. word (cell_text c)) e.cells ++ (codes " " ++ flag_letter e.flag ∷ []))

abbrev pub accent_name : ℕ → List ℕ
accent_name i = slice_index_or accent_names i []

-- ` ( base result )`
unfoldable pub pair_text : ℕ × ℕ → List ℕ
pair_text p = codes " ( " ++ (character_text p.0 ++ (codes " " ++ (character_text p.1 ++ codes " )")))

-- an accent's line without its line feed
unfoldable pub accent_words : ℕ → AccentValue → List ℕ
accent_words i a = accent_name i ++ (codes " " ++ (character_text a.own ++ flat_map pair_text a.pairs))

unfoldable pub accent_line : ℕ → AccentValue → List ℕ
accent_line i a = accent_name i ++ (codes " " ++ (character_text a.own ++ (flat_map pair_text a.pairs ++ codes "\n")))

-- a line for each slot
abbrev pub key_lines : MapValue → List ℕ
key_lines m = flat_map (λ s. key_line s (entry_at m s)) (range_with_len 0 (length m.entries))

-- a line for each accent
abbrev pub accent_lines : MapValue → List ℕ
accent_lines m = flat_map (λ i. accent_line i (slice_index_or m.accents i blank)) (range_with_len 0 (length m.accents))

abbrev pub printed : MapValue → List ℕ
printed m = key_lines m ++ accent_lines m
