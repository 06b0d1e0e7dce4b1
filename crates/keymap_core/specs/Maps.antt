-- A keymap as the lists of its defined entries and accents: what a contract sees of it. Past the last defined entry
-- each slot is undefined, and past the last defined accent each is blank.
use Rattle.std.specs.Prelude.{ℕ, ◌+◌, ◌-◌, List, ◌++◌, length, replicate, slice_get, slice_set, slice_index_or, Option}
use Rattle.keymap_core.specs.Accents.{AccentValue, blank}
use Rattle.keymap_core.specs.Numbers.{column_count}
use Rattle.keymap_core.specs.declared.entry.Entry.{Entry}
use Rattle.keymap_core.specs.declared.entry.Cell.{Cell}
use Rattle.keymap_core.specs.declared.entry.Cell.TheVariants as cell
use Rattle.keymap_core.specs.declared.entry.LockFlag.TheVariants as flag

-- the entries of the slots from 0 on, and the accents from 0 on, up to the last that is defined
pub record MapValue : Type 0 where
  pub entries : List Entry
  pub accents : List AccentValue

-- eight characters 0 and flag O
abbrev pub undefined : Entry
undefined = record { cells = replicate column_count (cell.Char 0); flag = flag.O }

abbrev pub n_keys_of : MapValue → ℕ
n_keys_of m = length m.entries

abbrev pub n_accs_of : MapValue → ℕ
n_accs_of m = length m.accents

-- the entry of a slot, undefined past the last defined one
abbrev pub entry_at : MapValue → ℕ → Entry
entry_at m slot = slice_index_or m.entries slot undefined

-- the cell at a slot and column
abbrev pub cell_at : MapValue → ℕ → ℕ → Cell
cell_at m slot column = slice_index_or (entry_at m slot).cells column (cell.Char 0)

-- the accent of an index, if it is below n_accs
abbrev pub accent_at : MapValue → ℕ → Option AccentValue
accent_at m i = slice_get m.accents i

-- the accent of an index, blank past the last defined one
abbrev pub accent_or_blank : MapValue → ℕ → AccentValue
accent_or_blank m i = slice_index_or m.accents i blank

-- xs with x at i, after as many blanks as are missing
abbrev pub placed : {X : Type 0} → X → List X → ℕ → X → List X
placed blank xs i x = slice_set (xs ++ replicate (i + 1 - length xs) blank) i x

abbrev pub with_entry : MapValue → ℕ → Entry → MapValue
with_entry m slot entry = record m { entries = placed undefined m.entries slot entry }

abbrev pub with_accent : MapValue → ℕ → AccentValue → MapValue
with_accent m index accent = record m { accents = placed blank m.accents index accent }
