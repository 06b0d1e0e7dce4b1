-- What the reading of tables from a reader answers.
use Rattle.std.specs.Prelude.{ℕ, ◌+◌, List, ⊤, Bool, true, false, Option, Result, Ok, Err}
use Rattle.keymap_core.specs.Maps.{MapValue}
use Rattle.keymap_core.specs.Transfers.{ReadsUpTo, IsDeviceFault}
use Rattle.keymap_core.specs.declared.transfer.ReadError.TheVariants as read
use Rattle.keymap_tables.specs.Layouts.{wide, narrow, file_size}
use Rattle.keymap_tables.specs.Readings.{IsReading, IsNarrowReading}
use Rattle.keymap_tables.specs.Types.{TableError, Memory, Read, Fault}

-- how many bytes of a file are read at most: one more than a table file has, and than a narrow one has
abbrev pub limit : ℕ
limit = file_size wide + 1

abbrev pub narrow_limit : ℕ
narrow_limit = file_size narrow + 1

-- The bytes that were read, up to a limit, are read so.
abbrev pub ReadsBytes : ℕ → (List ℕ → Result MapValue TableError → Type 0) → Option (List ℕ) → Option (List ℕ)
    → Result MapValue TableError → Type 0
ReadsBytes most IsRead old new r = (bytes : List ℕ) × ReadsUpTo most old new bytes × IsRead bytes r

-- The map or the fault of the bytes that were read. After a fault of the reader nothing is said of the bytes.
abbrev pub ReadsFile : ℕ → (List ℕ → Result MapValue TableError → Type 0) → Option (List ℕ) → Option (List ℕ)
    → Result MapValue TableError → Type 0
ReadsFile most IsRead old new (Ok m) = ReadsBytes most IsRead old new (Ok m)
ReadsFile most IsRead old new (Err Memory) = ⊤
ReadsFile most IsRead old new (Err (Read f)) = IsDeviceFault most old new (read.Read f)
ReadsFile most IsRead old new (Err (Fault f)) = ReadsBytes most IsRead old new (Err (Fault f))

abbrev pub ReadsTables : Option (List ℕ) → Option (List ℕ) → Result MapValue TableError → Type 0
ReadsTables old new r = ReadsFile limit IsReading old new r

abbrev pub ReadsNarrow : Option (List ℕ) → Option (List ℕ) → Result MapValue TableError → Type 0
ReadsNarrow old new r = ReadsFile narrow_limit IsNarrowReading old new r

-- whether the answer names the reader as what failed
abbrev pub blames_reader : {X : Type 0} → Result X TableError → Bool
blames_reader (Ok x) = false
blames_reader (Err Memory) = false
blames_reader (Err (Read f)) = true
blames_reader (Err (Fault f)) = false
