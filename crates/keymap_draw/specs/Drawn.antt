-- Which cells of a slot are drawn on its cap: those of the columns 0 base, 1 shift, 4 alt and 5 alt shift, in this
-- order.
use Rattle.std.specs.Prelude.{◌≡◌, ℕ, ◌+◌, ◌-◌, ◌%◌, ◌==◌, Bool, true, false, ◌||◌, ◌&&◌, not, List, [], ◌∷◌, All}
use Rattle.std.specs.Prelude.{slice_index_or, Option, Some, None, if◌then◌else◌}
use Rattle.std.specs.List.{list_any}
use Rattle.keymap_core.specs.declared.action.Action.TheVariants as a
use Rattle.keymap_core.specs.declared.entry.Cell.{Cell}
use Rattle.keymap_core.specs.declared.entry.Cell.TheVariants.{Char, Act}
use Rattle.keymap_core.specs.declared.entry.Entry.{Entry}
use Rattle.keymap_core.specs.Actions.{within, code_of}
use Rattle.keymap_draw.specs.declared.drawn.DrawnCells.{DrawnCells}
use Rattle.keymap_draw.specs.declared.place.Column.{Column}
use Rattle.keymap_draw.specs.declared.place.Column.TheVariants.{Base, Shift, Alt, AltShift}
use Rattle.keymap_draw.specs.declared.tables.CaseRow.{CaseRow}
use Rattle.keymap_draw.specs.declared.tables.TheConstants.{CASES}

-- the cell of a column, if it is drawn
abbrev pub cell_in : DrawnCells → Column → Option Cell
cell_in d Base = d.base
cell_in d Shift = d.shift
cell_in d Alt = d.alt
cell_in d AltShift = d.alt_shift

-- nothing is drawn for it
abbrev pub is_blank : Cell → Bool
is_blank (Char c) = c == 0
is_blank (Act a.Nop) = true
is_blank (Act action) = false

abbrev pub is_same : Cell → Cell → Bool
is_same (Char c) (Char d) = c == d
is_same (Act action) (Act another) = code_of action == code_of another
is_same _ _ = false

abbrev pub is_among : Cell → List Cell → Bool
is_among cell before = list_any (is_same cell) before

-- the cell, unless it is blank or the same as one before it
unfoldable pub remaining : Cell → List Cell → Option Cell
remaining cell before = if is_blank cell || is_among cell before then None else Some cell

abbrev pub column : Entry → ℕ → Cell
column e i = slice_index_or e.cells i (Char 0)

-- the cells that differ from those before them
unfoldable pub different : Entry → DrawnCells
different e = record {
  base = remaining (column e 0) [];
  shift = remaining (column e 1) (column e 0 ∷ []);
  alt = remaining (column e 4) (column e 0 ∷ column e 1 ∷ []);
  alt_shift = remaining (column e 5) (column e 0 ∷ column e 1 ∷ column e 4 ∷ []);
}

-- the small letter is one of the row's, and the capital is its capital
abbrev pub is_pair_by : CaseRow → ℕ → ℕ → Bool
is_pair_by row small capital =
    within row.0 row.1 small && (not row.2 || ((small - row.0) % 2 == 0)) && (capital + row.3 == small)

-- a small letter and its capital, by the table
unfoldable pub is_case_pair : ℕ → ℕ → Bool
is_case_pair small capital = list_any (λ row. is_pair_by row small capital) CASES

-- both cells remain, and are a small letter and its capital
abbrev pub is_pair : Option Cell → Option Cell → Bool
is_pair (Some (Char small)) (Some (Char capital)) = is_case_pair small capital
is_pair _ _ = false

-- the cells that are drawn, of all that differ: a capital stands for its small letter too, on the right in the place of
-- alt
abbrev pub joined : DrawnCells → DrawnCells
joined all = record {
  base = if is_pair all.base all.shift then None else all.base;
  shift = all.shift;
  alt = if is_pair all.alt all.alt_shift then all.alt_shift else all.alt;
  alt_shift = if is_pair all.alt all.alt_shift then None else all.alt_shift;
}

unfoldable pub drawn : Entry → DrawnCells
drawn e = joined (different e)

abbrev pub count : Option Cell → ℕ
count None = 0
count (Some cell) = 1

abbrev pub count_of : DrawnCells → ℕ
count_of d = count d.base + count d.shift + count d.alt + count d.alt_shift

-- a single cell is drawn, and it stands for no small letter on the left
unfoldable pub stands_alone : Entry → Bool
stands_alone e =
    (count_of (drawn e) == 1) && not (is_pair (different e).base (different e).shift)

-- ---- laws

-- what is drawn tells a cell: itself, or the capital of this small letter
abbrev pub tells : Cell → Option Cell → Bool
tells x None = false
tells x (Some y) = is_same x y || is_pair (Some x) (Some y)

abbrev pub is_told : DrawnCells → Cell → Bool
is_told d x = tells x d.base || tells x d.shift || tells x d.alt || tells x d.alt_shift

-- Of each of the four columns the cap tells the cell, unless nothing is drawn for it.
abbrev pub EachCellIsTold : Type 0
EachCellIsTold =
    (e : Entry) → All (λ i. (is_blank (column e i) || is_told (drawn e) (column e i)) ≡ true) (0 ∷ 1 ∷ 4 ∷ 5 ∷ [])
