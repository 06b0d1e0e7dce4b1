-- The table file and the narrow file of a map, by their parts.
use Rattle.std.specs.Prelude.{◌≡◌, ℕ, List, ◌++◌}
use Rattle.std.specs.List.{flat_map}
use Rattle.keymap_core.specs.Bounds.{IsMap}
use Rattle.keymap_core.specs.Maps.{MapValue}
use Rattle.keymap_tables.specs.Image.{image, narrow_image}
use Rattle.keymap_tables.specs.declared.file.NarrowFile.{NarrowFile}
use Rattle.keymap_tables.specs.declared.file.TableFile.{TableFile}

-- the bytes of rows
abbrev pub joined : List (List ℕ) → List ℕ
joined rows = flat_map (λ row. row) rows

-- the bytes of a table file, and of a narrow file
abbrev pub bytes_of : TableFile → List ℕ
bytes_of t = t.n_keys ++ joined t.slots ++ t.n_accs ++ joined t.accents

abbrev pub narrow_bytes_of : NarrowFile → List ℕ
narrow_bytes_of t = t.n_keys ++ joined t.slots ++ t.n_accs ++ joined t.accents

-- the file is that of the map
abbrev pub IsFileOf : MapValue → TableFile → Type 0
IsFileOf m t = IsMap m × (bytes_of t ≡ image m)

abbrev pub IsNarrowFileOf : MapValue → NarrowFile → Type 0
IsNarrowFileOf m t = IsMap m × (narrow_bytes_of t ≡ narrow_image m)
