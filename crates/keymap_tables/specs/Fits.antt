-- Which maps fit in a table file: those of which each character fits in the bytes of a number. In the wide file every
-- map does.
use Rattle.std.specs.Prelude.{◌≡◌, ℕ, ◌+◌, ◌*◌, ◌<◌, ◌≤◌, List, All, slice_index_or}
use Rattle.keymap_core.specs.Accents.{AccentValue}
use Rattle.keymap_core.specs.Maps.{MapValue, entry_at, accent_or_blank}
use Rattle.keymap_tables.specs.Types.{Cell, Char, Act, Entry, Layout}
use Rattle.keymap_tables.specs.declared.layout.Layout.TheVariants as layout
use Rattle.keymap_tables.specs.declared.narrow.Wide.{Wide}
use Rattle.keymap_tables.specs.declared.narrow.Wide.TheVariants as at
use Rattle.keymap_tables.specs.Image.{image, narrow_image, numbers_of}
use Rattle.keymap_tables.specs.Layouts.{narrow, number_limit, number_size, slot_place, accent_place}

-- the number of a character, 0 for an action
abbrev pub character_of : Cell → ℕ
character_of (Char c) = c
character_of (Act a) = 0

-- the code of an action always fits
abbrev pub CellFits : Layout → Cell → Type 0
CellFits l cell = character_of cell < number_limit l

abbrev pub EntryFits : Layout → Entry → Type 0
EntryFits l entry = All (CellFits l) entry.cells

abbrev pub AccentFits : Layout → AccentValue → Type 0
AccentFits l accent = All (λ number. number < number_limit l) (numbers_of accent)

pub record FitsIn (l : Layout) (m : MapValue) : Type 0 where
  pub entries : All (EntryFits l) m.entries
  pub accents : All (AccentFits l) m.accents

-- no character is above 255
abbrev pub Fits : MapValue → Type 0
Fits m = FitsIn narrow m

-- the bytes are the tables of the map, narrow ones of a map that fits
abbrev pub AreTablesOf : Layout → List ℕ → MapValue → Type 0
AreTablesOf layout.Wide bytes m = bytes ≡ image m
AreTablesOf layout.Narrow bytes m = Fits m × (bytes ≡ narrow_image m)

-- the character in a column of an entry, 0 for an action
abbrev pub character_in : Entry → ℕ → ℕ
character_in entry column = character_of (slice_index_or entry.cells column (Char 0))

-- a number of an accent
abbrev pub number_in : AccentValue → ℕ → ℕ
number_in accent number = slice_index_or (numbers_of accent) number 0

-- what stands at a place of a map: the character of a cell, or a number of an accent
abbrev pub number_of_place : MapValue → Wide → ℕ
number_of_place m (at.Cell slot column) = character_in (entry_at m slot) column
number_of_place m (at.Accent accent number) = number_in (accent_or_blank m accent) number

-- a character above 255 stands there
abbrev pub IsWide : MapValue → Wide → Type 0
IsWide m w = 255 < number_of_place m w

-- the place of a wide character in a narrow file
abbrev pub place_of : Wide → ℕ
place_of (at.Cell slot column) = slot_place narrow slot + number_size narrow * column
place_of (at.Accent accent number) = accent_place narrow accent + number_size narrow * number

-- the character above 255 that comes first in the file
pub record IsFirstWide (m : MapValue) (w : Wide) : Type 0 where
  pub here : IsWide m w
  pub first : (v : Wide) → IsWide m v → place_of w ≤ place_of v
