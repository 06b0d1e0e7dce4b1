-- What the writing of a narrow file answers.
use Rattle.std.specs.Prelude.{ℕ, ◌<◌, List, length, take, Bool, true, false, Option, Result, Ok, Err}
use Rattle.std.specs.Io.KnownBytes.{Appends, Keeps}
use Rattle.keymap_core.specs.Maps.{MapValue}
use Rattle.keymap_tables.specs.Fits.{Fits, IsFirstWide}
use Rattle.keymap_tables.specs.Image.{narrow_image}
use Rattle.keymap_tables.specs.declared.narrow.NarrowError.{NarrowError}
use Rattle.keymap_tables.specs.declared.narrow.NarrowError.TheVariants.{TooWide, Write}

-- The image of a map that fits was written, or after a fault of the writer the first bytes of it, not all. Of a map
-- that doesn't fit nothing was written.
abbrev pub WritesNarrow : {X : Type 0} → Option (List ℕ) → Option (List ℕ) → MapValue → Result X NarrowError → Type 0
WritesNarrow old new m (Ok x) = Fits m × Appends old new (narrow_image m)
WritesNarrow old new m (Err (TooWide w)) = IsFirstWide m w × Keeps old new
WritesNarrow old new m (Err (Write f)) =
    Fits m × (f.written < length (narrow_image m)) × Appends old new (take f.written (narrow_image m))

-- whether the answer names the writer as what failed
abbrev pub blames_writer : {X : Type 0} → Result X NarrowError → Bool
blames_writer (Ok x) = false
blames_writer (Err (TooWide w)) = false
blames_writer (Err (Write f)) = true
