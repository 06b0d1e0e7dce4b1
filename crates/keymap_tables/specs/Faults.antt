-- Which fault stands at a place of a table file.
use Rattle.std.specs.Prelude.{◌≡◌, ℕ, ◌+◌, ◌-◌, ◌*◌, ◌/◌, ◌%◌, ◌^◌, ◌<◌, ◌==◌, nat_lt, nat_le, List, length, take, drop}
use Rattle.std.specs.Prelude.{take_while, slice_index, Bool, not, is_some, Option, None, Some, if◌then◌else◌}
use lib.Utf8.{scalar}
use Rattle.std.specs.Int.{Width, from_le_bytes, w16}
use Rattle.std.specs.List.{range_with_len}
use Rattle.keymap_core.specs.Actions.{action_of, within}
use Rattle.keymap_core.specs.Numbers.{slot_limit, column_count, accent_limit, pair_limit}
use Rattle.keymap_tables.specs.Layouts.{cells_size, wide, narrow, part, number_width, number_size, count_size}
use Rattle.keymap_tables.specs.Layouts.{slot_size, accent_size, n_accs_place, file_size}
use Rattle.keymap_tables.specs.Types.{Layout, TableFaultKind, Short, Long, BadCount, BadPad, BadFlag, BadAction}
use Rattle.keymap_tables.specs.Types.{Combined, BadChar, NotEmpty, TableFault}

-- the kind of fault at each place, if there is one
abbrev pub FaultOf : Type 0
FaultOf = ℕ → Option TableFaultKind

-- The number of a cell or a character, and a count, from a place on.
abbrev pub number_at : Layout → List ℕ → ℕ → ℕ
number_at l bytes at = from_le_bytes (number_width l) (part bytes at (number_size l))

abbrev pub count_at : List ℕ → ℕ → ℕ
count_at bytes at = from_le_bytes w16 (part bytes at 2)

abbrev pub count_over : ℕ → ℕ → Option TableFaultKind
count_over most count = if nat_le count most then None else Some BadCount

abbrev pub char_fault : ℕ → Option TableFaultKind
char_fault number = if scalar number then None else Some BadChar

abbrev pub action_fault : ℕ → Option TableFaultKind
action_fault number =
    if within 0x9b 0xa0 number then Some Combined else if is_some (action_of number) then None else Some BadAction

abbrev pub cell_fault : ℕ → Bool → Option TableFaultKind
cell_fault number is_marked = if is_marked then action_fault number else char_fault number

abbrev pub flag_fault : ℕ → Option TableFaultKind
flag_fault byte = if nat_le byte 3 then None else Some BadFlag

-- a byte that has to be 0
abbrev pub zero_fault : TableFaultKind → List ℕ → FaultOf
zero_fault kind bytes p = if slice_index bytes p == 0 then None else Some kind

-- the bytes of a number: its fault stands at the first of them
abbrev pub number_fault : Width → (ℕ → Option TableFaultKind) → List ℕ → FaultOf
number_fault w fault_in bytes p = if p == 0 then fault_in (from_le_bytes w bytes) else None

-- rows of one size by their count, each with its own faults, and what follows them
abbrev pub rows_fault : (ℕ → List ℕ → FaultOf) → ℕ → ℕ → FaultOf → List ℕ → FaultOf
rows_fault fault_in size count behind bytes p =
    if nat_lt (p / size) count then fault_in (p / size) (part bytes (size * (p / size)) size) (p % size) else behind p

-- the first n bytes, and those that follow them
abbrev pub split_fault : ℕ → (List ℕ → FaultOf) → (List ℕ → FaultOf) → List ℕ → FaultOf
split_fault n front back bytes p = if nat_lt p n then front (take n bytes) p else back (drop n bytes) (p - n)

-- A count: its number, and the pads.
abbrev pub count_fault : ℕ → List ℕ → FaultOf
count_fault most bytes = rows_fault (λ i. number_fault w16 (count_over most)) 2 1 (zero_fault BadPad bytes) bytes

-- whether the cell of a column is marked as an action: bit 0x80 >> column of the byte after the cells
abbrev pub is_marked_at : Layout → List ℕ → ℕ → Bool
is_marked_at l bytes column = (slice_index bytes (cells_size l) / 2 ^ (7 - column)) % 2 == 1

-- the marks, the flag and the pads
abbrev pub slot_end_fault : Layout → List ℕ → FaultOf
slot_end_fault l bytes p =
    if p == cells_size l then None
    else if p == cells_size l + 1 then flag_fault (slice_index bytes p)
    else zero_fault BadPad bytes p

-- the cell of a column
abbrev pub cell_faults : Layout → List ℕ → ℕ → List ℕ → FaultOf
cell_faults l bytes column =
    number_fault (number_width l) (λ number. cell_fault number (is_marked_at l bytes column))

-- A slot below n_keys: the cells, and what follows them.
abbrev pub slot_fault : Layout → List ℕ → FaultOf
slot_fault l bytes =
    rows_fault (cell_faults l bytes) (number_size l) column_count (slot_end_fault l bytes) bytes

-- the base of a pair of an accent
abbrev pub base_at : Layout → List ℕ → ℕ → ℕ
base_at l bytes pair = number_at l bytes (number_size l * (1 + 2 * pair))

-- how many of the pairs stand before the first base 0
unfoldable pub pairs_in : Layout → List ℕ → ℕ
pairs_in l bytes = length (take_while (λ pair. not (base_at l bytes pair == 0)) (range_with_len 0 pair_limit))

-- An accent below n_accs: the own character and the pairs, and zeros behind them.
abbrev pub accent_fault : Layout → List ℕ → FaultOf
accent_fault l bytes =
    rows_fault (λ i. number_fault (number_width l) char_fault) (number_size l) (1 + 2 * pairs_in l bytes)
    (zero_fault NotEmpty bytes) bytes

-- rows of which the first `count` are in use, and zeros behind them
abbrev pub used_fault : (List ℕ → FaultOf) → ℕ → ℕ → List ℕ → FaultOf
used_fault fault_in size count bytes = rows_fault (λ i. fault_in) size count (zero_fault NotEmpty bytes) bytes

-- a count, and so many rows in use
abbrev pub table_fault : Layout → (List ℕ → FaultOf) → ℕ → ℕ → List ℕ → FaultOf
table_fault l fault_in size most bytes =
    split_fault (count_size l) (count_fault most) (used_fault fault_in size (count_at bytes 0)) bytes

-- A file of the right length: the slots, and then the accents.
abbrev pub content_fault : Layout → List ℕ → FaultOf
content_fault l =
    split_fault (n_accs_place l) (table_fault l (slot_fault l) (slot_size l) slot_limit)
    (table_fault l (accent_fault l) (accent_size l) accent_limit)

-- The places of a file: a wrong length first.
unfoldable pub fault_at : Layout → List ℕ → FaultOf
fault_at l bytes p =
    if nat_lt (length bytes) (file_size l) then (if p == length bytes then Some Short else None)
    else if nat_lt (file_size l) (length bytes) then (if p == file_size l then Some Long else None)
    else content_fault l bytes p

-- the fault at the first place that has one
pub record IsFirstFault (fault_of : FaultOf) (f : TableFault) : Type 0 where
  pub here : fault_of f.offset ≡ Some f.kind
  pub before : (p : ℕ) → p < f.offset → fault_of p ≡ None

-- the fault of a table file, and of a narrow one
abbrev pub IsTableFault : List ℕ → TableFault → Type 0
IsTableFault bytes f = IsFirstFault (fault_at wide bytes) f

abbrev pub IsNarrowFault : List ℕ → TableFault → Type 0
IsNarrowFault bytes f = IsFirstFault (fault_at narrow bytes) f
