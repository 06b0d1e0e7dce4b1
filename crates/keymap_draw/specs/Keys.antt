-- What one key of the picture tells: its title, which is its line of the printed form, its cap, its code, its legends,
-- and what it was before a change.
use Rattle.std.specs.Prelude.{ℕ, ◌-◌, ◌%◌, ◌==◌, nat_lt, Bool, true, false, ◌||◌, ◌&&◌, List, [], ◌∷◌, ◌++◌}
use Rattle.std.specs.Prelude.{codes, decimal, Option, Some, None, option_to_list, if◌then◌else◌}
use Rattle.std.specs.List.{find, list_all, list_any}
use Rattle.std.specs.Option.{is_some}
use Rattle.keymap_core.specs.declared.action.Action.TheVariants as a
use Rattle.keymap_core.specs.declared.entry.Cell.{Cell}
use Rattle.keymap_core.specs.declared.entry.Cell.TheVariants.{Char, Act}
use Rattle.keymap_core.specs.declared.entry.Entry.{Entry}
use Rattle.keymap_core.specs.declared.entry.LockFlag.{LockFlag}
use Rattle.keymap_core.specs.declared.entry.LockFlag.TheVariants as flag
use Rattle.keymap_core.specs.Actions.{within}
use Rattle.keymap_core.specs.Maps.{MapValue, entry_at}
use Rattle.keymap_core.specs.Numbers.{key_count}
use Rattle.keymap_check.specs.declared.finding.Finding.{Finding}
use Rattle.keymap_check.specs.Said.{finding_words}
use Rattle.keymap_text.specs.Printed.{slot_words}
use Rattle.keymap_draw.specs.declared.board.Shape.{Shape}
use Rattle.keymap_draw.specs.declared.drawn.DrawnCells.{DrawnCells}
use Rattle.keymap_draw.specs.declared.place.Column.{Column}
use Rattle.keymap_draw.specs.declared.place.Column.TheVariants.{Base, Shift, Alt, AltShift}
use Rattle.keymap_draw.specs.Boards.{letter, width, height}
use Rattle.keymap_draw.specs.Drawn.{is_blank, column, cell_in, drawn, stands_alone}
use Rattle.keymap_draw.specs.Legends.{cell_legend, is_word}
use Rattle.keymap_draw.specs.declared.change.About.TheVariants.{Slot}
use Rattle.keymap_draw.specs.Drawings.{Drawing, line_about}
use Rattle.keymap_draw.specs.Facts.{Fact, cap_by, image, titled, text, text_within}
use Rattle.keymap_draw.specs.Facts.Fact.{End}
use Rattle.keymap_draw.specs.Marks.{mark_of, was_of}
use Rattle.keymap_draw.specs.Places.{and_class, beside_of, code_x, legend_x, legend_y, legend_classes, shrunk_length}

-- the finding of a key, if the check names it
abbrev pub finding_of : List Finding → ℕ → Option Finding
finding_of fs k = find (λ f. f.key == k) fs

-- some finding is of the key
abbrev pub names_key : List Finding → ℕ → Bool
names_key fs k = list_any (λ f. f.key == k) fs

-- an action other than nop and the dead keys, or a control character
abbrev pub is_doing : Cell → Bool
is_doing (Char c) = within 1 31 c || (c == 127)
is_doing (Act a.Nop) = false
is_doing (Act (a.DeadKey i)) = false
is_doing (Act action) = true

abbrev pub is_holding : Cell → Bool
is_holding (Char c) = false
is_holding (Act (a.Mod modifier)) = true
is_holding (Act (a.Lock lock)) = true
is_holding (Act action) = false

-- each cell of the entry is nop or the character 0
unfoldable pub is_blank_entry : Entry → Bool
is_blank_entry e = list_all is_blank e.cells

-- the class of a key that the check names, f
abbrev pub red : ℕ
red = 102

-- the class for the colour of a key: f where the check names it, p where it is blank, m for a modifier or lock, g for
-- another action
unfoldable pub key_class : List Finding → ℕ → Entry → Option ℕ
key_class fs slot e =
    if is_some (finding_of fs (slot % key_count)) then Some red
    else if is_blank_entry e then Some 112
    else if is_holding (column e 0) then Some 109
    else if is_doing (column e 0) then Some 103
    else None

abbrev pub finding_line : Option Finding → List ℕ
finding_line None = []
finding_line (Some f) = finding_words f ++ codes "\n"

-- what the check says of the key, and its line of the printed form
abbrev pub title : List Finding → ℕ → Entry → List ℕ
title fs slot e = finding_line (finding_of fs (slot % key_count)) ++ slot_words slot e

-- a blank and the letter of the locks that turn shift around
abbrev pub flag_words : LockFlag → List ℕ
flag_words flag.O = []
flag_words flag.C = codes " C"
flag_words flag.N = codes " N"
flag_words flag.B = codes " B"

-- the slot's number and the letter of its locks
abbrev pub code : ℕ → LockFlag → Shape → Fact
code slot l shape = text (decimal (code_x shape)) (decimal (height shape - 7)) [] (decimal slot ++ flag_words l)

-- the legend of a cell; it is tight where another one stands beside it on a small cap
abbrev pub legend : MapValue → Shape → Column → Bool → Bool → Cell → Fact
legend m shape c alone tight cell =
    text_within (decimal (legend_x shape c alone)) (decimal (legend_y shape c alone (is_word (cell_legend cell))))
    (legend_classes m c cell (cell_legend cell) alone tight) (shrunk_length shape (cell_legend cell) alone tight)
    (cell_legend cell)

abbrev pub some_legend : MapValue → Shape → Column → Bool → Bool → Option Cell → List Fact
some_legend m shape c alone tight None = []
some_legend m shape c alone tight (Some cell) = legend m shape c alone tight cell ∷ []

abbrev pub is_tight : Shape → DrawnCells → Column → Bool
is_tight shape d c = is_some (cell_in d (beside_of c)) && nat_lt (width shape) 112

abbrev pub drawn_legend : MapValue → Shape → Bool → DrawnCells → Column → List Fact
drawn_legend m shape alone d c = some_legend m shape c alone (is_tight shape d c) (cell_in d c)

abbrev pub legends_of : MapValue → Shape → Bool → DrawnCells → List Fact
legends_of m shape alone d =
    drawn_legend m shape alone d Base ++ drawn_legend m shape alone d Shift ++ drawn_legend m shape alone d Alt
    ++ drawn_legend m shape alone d AltShift

-- a legend for each cell that is drawn
unfoldable pub legends : MapValue → Shape → Entry → List Fact
legends m shape e = legends_of m shape (stands_alone e) (drawn e)

-- the group of a key with its title, and a cap by the letter of its shape
abbrev pub titled_cap : List ℕ → List ℕ → ℕ → ℕ → Shape → List Fact
titled_cap said class x y shape =
    image class (decimal x) (decimal y) ∷ titled said ∷ cap_by (letter shape ∷ []) ∷ []

-- behind a line feed, in the title of a key that differs
abbrev pub title_with : Option ℕ → List ℕ → List ℕ → List ℕ
title_with None said line = said
title_with (Some mark) said line = (said ++ codes "\n") ++ line

-- the title and the cap of a key: in the class for its colour, and behind it in that of a key that differs
abbrev pub cap : Drawing → ℕ → ℕ → ℕ → Shape → Entry → List Fact
cap d slot x y shape e =
    titled_cap (title_with (mark_of d slot) (title d.findings slot e) (line_about d.lines (Slot slot)))
    (and_class (option_to_list (key_class d.findings slot e)) (mark_of d slot)) x y shape

-- what is written for what a cell was, the empty set for nothing
abbrev pub legend_or_empty : List ℕ → List ℕ
legend_or_empty [] = 0x2205 ∷ []
legend_or_empty legend = legend

abbrev pub was_legend : Cell → List ℕ
was_legend cell = legend_or_empty (cell_legend cell)

-- what the key was stands below right, on its edge
abbrev pub was_text : Shape → Option Cell → List Fact
was_text shape None = []
was_text shape (Some cell) =
    text (decimal (width shape - 12)) (decimal (height shape - 7)) (codes "s") (was_legend cell) ∷ []

-- the key of a slot at a place
unfoldable pub key : Drawing → ℕ → ℕ → ℕ → Shape → List Fact
key d slot x y shape =
    cap d slot x y shape (entry_at d.map slot)
    ++ code slot (entry_at d.map slot).flag shape ∷ []
    ++ legends d.map shape (entry_at d.map slot)
    ++ was_text shape (was_of d slot)
    ++ End ∷ []
