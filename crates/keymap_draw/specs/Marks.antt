-- Which keys and accents of a change are marked, and what stands on a changed key: what it was.
use Rattle.std.specs.Prelude.{◌≡◌, ◌≢◌, ◌↔◌, ℕ, Bool, false, not, ◌||◌, Option, Some, None, if◌then◌else◌}
use Rattle.keymap_core.specs.contracts.accent.AccentPartialEq.TheImpl as accent_equal
use Rattle.keymap_core.specs.contracts.entry.CellPartialEq.TheImpl as cell_equal
use Rattle.keymap_core.specs.contracts.entry.EntryPartialEq.TheImpl as entry_equal
use Rattle.keymap_core.specs.Accents.{AccentValue}
use Rattle.keymap_core.specs.Maps.{MapValue, entry_at, accent_or_blank}
use Rattle.keymap_core.specs.declared.entry.Cell.{Cell}
use Rattle.keymap_core.specs.declared.entry.Entry.{Entry}
use Rattle.keymap_draw.specs.Drawings.{Drawing}
use Rattle.keymap_draw.specs.Drawn.{column}

-- whether two cells are the same, two slots and two accents, as `==` tells
abbrev pub same_cell : Cell → Cell → Bool
same_cell = cell_equal.eq-value.it

abbrev pub same_entry : Entry → Entry → Bool
same_entry = entry_equal.eq-value.it

abbrev pub same_accent : AccentValue → AccentValue → Bool
same_accent = accent_equal.eq-value.it

-- the cell of a column is another one
abbrev pub has_changed : Entry → Entry → ℕ → Bool
has_changed old new i = not (same_cell (column old i) (column new i))

-- the classes of a key of which base or shift differ, n, and of one of which only other columns or the lock letter do, q
abbrev pub strong : ℕ
strong = 110

abbrev pub pale : ℕ
pale = 113

-- the class of a key that differs
unfoldable pub mark : Entry → Entry → Option ℕ
mark old new =
    if has_changed old new 0 || has_changed old new 1 then Some strong
    else if same_entry old new then None
    else Some pale

-- what the first of base, shift, alt and alt shift was that has changed
unfoldable pub was : Entry → Entry → Option Cell
was old new =
    if has_changed old new 0 then Some (column old 0)
    else if has_changed old new 1 then Some (column old 1)
    else if has_changed old new 4 then Some (column old 4)
    else if has_changed old new 5 then Some (column old 5)
    else None

abbrev pub mark_of : Drawing → ℕ → Option ℕ
mark_of d slot = mark (entry_at d.old slot) (entry_at d.map slot)

abbrev pub was_of : Drawing → ℕ → Option Cell
was_of d slot = was (entry_at d.old slot) (entry_at d.map slot)

-- the accent differs
abbrev pub has_other_accent : Drawing → ℕ → Bool
has_other_accent d i = not (same_accent (accent_or_blank d.old i) (accent_or_blank d.map i))

-- A key is marked exactly if its slot differs: in a cell or in the lock letter; and an accent exactly if it does.
pub record MarkedAreChanged (m n : MapValue) : Type 0 where
  pub keys : (slot : ℕ) → (mark (entry_at m slot) (entry_at n slot) ≡ None) ↔ (entry_at m slot ≡ entry_at n slot)
  pub accents : (i : ℕ) → (same_accent (accent_or_blank m i) (accent_or_blank n i) ≡ false)
      ↔ (accent_or_blank m i ≢ accent_or_blank n i)
