-- Where the parts of a table file stand: one format at two widths.
use Rattle.std.specs.Prelude.{ℕ, ◌+◌, ◌*◌, ◌^◌, ◌==◌, List, take, drop, if◌then◌else◌}
use Rattle.std.specs.Int.{Width, w8, w32}
use Rattle.keymap_core.specs.Numbers.{slot_limit, column_count, accent_limit, pair_limit}
use Rattle.keymap_tables.specs.Types.{Layout, Wide, Narrow}

-- the layout of `struct keymap` and `struct accentmap`
abbrev pub wide : Layout
wide = Wide

-- the layout of a byte a number, without pads
abbrev pub narrow : Layout
narrow = Narrow

-- the layout of numbers of so many bytes
abbrev pub layout_of : ℕ → Layout
layout_of size = if size == 1 then narrow else wide

-- the width of a cell, and of an accent's character
abbrev pub number_width : Layout → Width
number_width Wide = w32
number_width Narrow = w8

-- the width in bytes
abbrev pub number_size : Layout → ℕ
number_size Wide = 4
number_size Narrow = 1

-- the numbers below this fit
abbrev pub number_limit : Layout → ℕ
number_limit Wide = 2 ^ 32
number_limit Narrow = 256

-- the zero bytes after a count, and after the flag of a slot
abbrev pub pad_size : Layout → ℕ
pad_size Wide = 2
pad_size Narrow = 0

-- two bytes and the pads: 4, narrow 2
abbrev pub count_size : Layout → ℕ
count_size l = 2 + pad_size l

-- the eight cells of a slot: 32, narrow 8
abbrev pub cells_size : Layout → ℕ
cells_size l = column_count * number_size l

-- the cells, the marks, the flag, the pads: 36, narrow 10
abbrev pub slot_size : Layout → ℕ
slot_size l = cells_size l + 2 + pad_size l

-- the numbers of an accent: its own character, and the base and the result of each pair
abbrev pub number_count : ℕ
number_count = 1 + 2 * pair_limit

-- 105 numbers: 420, narrow 105
abbrev pub accent_size : Layout → ℕ
accent_size l = number_count * number_size l

-- n_keys stands at 0, the slots at 4, narrow 2
abbrev pub slots_place : Layout → ℕ
slots_place l = count_size l

-- where a slot stands in the file
abbrev pub slot_place : Layout → ℕ → ℕ
slot_place l slot = slots_place l + slot_size l * slot

abbrev pub slots_size : Layout → ℕ
slots_size l = slot_limit * slot_size l

-- 9220, narrow 2562
abbrev pub n_accs_place : Layout → ℕ
n_accs_place l = slots_place l + slots_size l

-- 9224, narrow 2564
abbrev pub accents_place : Layout → ℕ
accents_place l = n_accs_place l + count_size l

-- where an accent stands in the file
abbrev pub accent_place : Layout → ℕ → ℕ
accent_place l accent = accents_place l + accent_size l * accent

abbrev pub accents_size : Layout → ℕ
accents_size l = accent_limit * accent_size l

-- 15524, narrow 4139
abbrev pub file_size : Layout → ℕ
file_size l = accents_place l + accents_size l

-- the bytes from a place on, as many as the size says
abbrev pub part : List ℕ → ℕ → ℕ → List ℕ
part bytes at size = take size (drop at bytes)
