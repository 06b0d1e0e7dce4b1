-- What calls over narrow tables tell.
use Rattle.std.specs.Prelude.{◌≡◌, ◌⊎◌, ◌==◌, ◌&&◌, if◌then◌else◌, ℕ, ℤ, List, length}
use Rattle.keymap_core.specs.Bounds.{IsMap}
use Rattle.keymap_core.specs.Maps.{MapValue}
use Rattle.keymap_tables.specs.Faults.{IsNarrowFault}
use Rattle.keymap_tables.specs.Fits.{Fits}
use Rattle.keymap_tables.specs.declared.fault.TableFault.{TableFault}
use Rattle.keymap_tables.specs.Image.{image, narrow_image}
use Rattle.keymap_tables.specs.Layouts.{narrow, file_size}
use Rattle.keymap_tables.specs.declared.narrow.Wide.{Wide}
use Rattle.keymap_tables.specs.declared.narrow.Wide.TheVariants as at
use Rattle.kmap_c.specs.declared.narrow.KmapWide.{KmapWide}
use Rattle.kmap_c.specs.Numbers.{is_event}
use Rattle.kmap_c.specs.Statuses as status

-- narrow tables of a keymap, and the tables of the same keymap
abbrev pub AreNarrowOf : List ℕ → List ℕ → Type 0
AreNarrowOf narrow_tables tables =
    (m : MapValue) × IsMap m × Fits m × (narrow_tables ≡ narrow_image m) × (tables ≡ image m)

-- a slot and a column of it, or an accent and the number of a character of it
abbrev pub IsToldWide : Wide → KmapWide → Type 0
IsToldWide (at.Cell slot column) t = (t.is_accent ≡ 0) × (t.row ≡ slot) × (t.number ≡ column)
IsToldWide (at.Accent accent number) t = (t.is_accent ≡ 1) × (t.row ≡ accent) × (t.number ≡ number)

abbrev pub IsNarrowing : ℤ → Type 0
IsNarrowing r =
    (r ≡ status.done) ⊎ (r ≡ status.bad_length) ⊎ (r ≡ status.faulty) ⊎ (r ≡ status.too_wide)

abbrev pub IsWidening : ℤ → Type 0
IsWidening r = (r ≡ status.done) ⊎ (r ≡ status.bad_length) ⊎ (r ≡ status.faulty)

-- narrow tables of the right length that have a fault
abbrev pub AreFaultyNarrow : List ℕ → Type 0
AreFaultyNarrow tables = (length tables ≡ file_size narrow) × ((f : TableFault) × IsNarrowFault tables f)

-- narrow tables haven't their length, or else the number names no event
abbrev pub narrow_status_of : List ℕ → List ℕ → ℕ → ℤ
narrow_status_of first second event =
    if (length first == file_size narrow) && (length second == file_size narrow)
    then (if is_event event then status.done else status.bad_event)
    else status.bad_length
