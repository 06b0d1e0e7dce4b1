-- The numbers of the format, each named once. src/limits.rt has the same as constants.
use Rattle.std.specs.Prelude.{ℕ}

-- the key codes, from 0 on
abbrev pub key_count : ℕ
key_count = 128

-- the slots of a map: two for each key
abbrev pub slot_limit : ℕ
slot_limit = 256

-- the cells of a slot
abbrev pub column_count : ℕ
column_count = 8

abbrev pub accent_limit : ℕ
accent_limit = 15

-- the pairs of an accent
abbrev pub pair_limit : ℕ
pair_limit = 52
