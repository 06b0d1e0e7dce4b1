-- What stands below the keys: the findings of the check, the accents that have a character, and the dead keys without
-- one.
use Rattle.std.specs.Prelude.{ℕ, ◌+◌, ◌*◌, ◌/◌, ◌%◌, ◌==◌, Bool, true, false, ◌||◌, ◌&&◌, not, List, [], ◌∷◌, ◌++◌}
use Rattle.std.specs.Prelude.{codes, decimal, length, Option, Some, None, option_to_list, if◌then◌else◌}
use Rattle.std.specs.List.{list_any}
use Rattle.keymap_core.specs.declared.action.Action.TheVariants as a
use Rattle.keymap_core.specs.declared.entry.Cell.{Cell}
use Rattle.keymap_core.specs.declared.entry.Cell.TheVariants.{Char, Act}
use Rattle.keymap_core.specs.declared.entry.Entry.{Entry}
use Rattle.keymap_core.specs.Accents.{AccentValue}
use Rattle.keymap_core.specs.Actions.{name_of}
use Rattle.keymap_core.specs.Below.{passing}
use Rattle.keymap_core.specs.Borne.{any_below, is_upper_live}
use Rattle.keymap_core.specs.Maps.{MapValue, entry_at, accent_at, accent_or_blank}
use Rattle.keymap_core.specs.Numbers.{key_count, accent_limit}
use Rattle.keymap_check.specs.declared.finding.Finding.{Finding}
use Rattle.keymap_check.specs.Said.{finding_words}
use Rattle.keymap_text.specs.Printed.{accent_words}
use Rattle.keymap_draw.specs.declared.change.About.TheVariants.{Accent}
use Rattle.keymap_draw.specs.declared.half.Half.{Half}
use Rattle.keymap_draw.specs.declared.half.Half.TheVariants.{Lower, Upper}
use Rattle.keymap_draw.specs.Drawings.{Drawing, line_about}
use Rattle.keymap_draw.specs.Facts.{Fact, headline_at, numbered, group, image, row_field, text, titled}
use Rattle.keymap_draw.specs.Facts.Fact.{End, Text}
use Rattle.keymap_draw.specs.Halves.{slot_of}
use Rattle.keymap_draw.specs.Legends.{accent_mark, character_legend, marked}
use Rattle.keymap_draw.specs.Marks.{has_other_accent}
use Rattle.keymap_draw.specs.Places.{size_class}

-- the i-th finding, two in a row
abbrev pub listed_finding : ℕ → ℕ → Finding → List Fact
listed_finding y i f =
    text (decimal (28 + i % 2 * 720)) (decimal (y + 52 + i / 2 * 20)) (codes "l no") (finding_words f) ∷ []

-- what the check says of each key that it names, below a headline, if there are any
unfoldable pub findings_list : List Finding → ℕ → List Fact
findings_list fs y =
    if length fs == 0 then []
    else headline_at (y + 26) (codes "h no") (codes "Findings") ∷ [] ++ numbered (listed_finding y) 0 fs

abbrev pub findings_height : ℕ → ℕ
findings_height count = if count == 0 then 0 else 48 + (count + 1) / 2 * 20

abbrev pub has_character : MapValue → ℕ → Bool
has_character m i = not ((accent_or_blank m i).own == 0)

-- the accents that have a character
unfoldable pub named_accents : MapValue → List ℕ
named_accents m = passing (has_character m) accent_limit

-- a character in a line of a table
abbrev pub composed : ℕ → ℕ → List Fact
composed place c =
    Text (codes "text") (option_to_list (size_class (character_legend c) false true))
    ((codes "x", decimal (12 + 25 * place)) ∷ []) (character_legend c) ∷ []

-- the base of a pair, or its result
abbrev pub part_of : Bool → ℕ × ℕ → ℕ
part_of results pair = if results then pair.1 else pair.0

-- the base or result of the i-th pair, behind the character that stands first
abbrev pub part : Bool → ℕ → ℕ × ℕ → List Fact
part results i pair = composed (i + 1) (part_of results pair)

-- a character, and the bases or the results of pairs
abbrev pub line : Bool → ℕ → List (ℕ × ℕ) → List Fact
line results first pairs = composed 0 first ++ numbered (part results) 0 pairs

-- the base of each pair above its result, and before them the blank above the accent's own character
unfoldable pub table : ℕ → List (ℕ × ℕ) → List Fact
table own pairs =
    group (codes "i") (codes "124") (codes "17") ∷ [] ++ line false 32 pairs
    ++ End ∷ group (codes "j") (codes "124") (codes "39") ∷ []
    ++ line true own pairs
    ++ End ∷ End ∷ []

abbrev pub accent_sign : ℕ → List ℕ
accent_sign i = marked (accent_mark i)

-- the mark and the name of an accent, with a class for its colour
abbrev pub heading : ℕ → ℕ → ℕ → List Fact
heading i x class =
    text (decimal x) (codes "35") (codes "z c " ++ class ∷ []) (accent_sign i)
    ∷ text (decimal (x + 28)) (codes "30") (codes "l") (name_of (a.DeadKey i)) ∷ []

-- a row begins with what its title says
abbrev pub row_of : List ℕ → ℕ → List Fact
row_of said y = image [] (codes "16") (decimal y) ∷ titled said ∷ row_field (codes "row") ∷ []

-- the row of an accent that differs, of which the last line of the title tells how
abbrev pub changed_row_of : List ℕ → List ℕ → ℕ → List Fact
changed_row_of said line y =
    image [] (codes "16") (decimal y) ∷ titled ((said ++ codes "\n") ++ line) ∷ row_field (codes "row n") ∷ []

-- the row of an accent, of which the title is the line of the printed form
abbrev pub titled_row : Drawing → ℕ → AccentValue → ℕ → List Fact
titled_row d i accent y =
    if has_other_accent d i then changed_row_of (accent_words i accent) (line_about d.lines (Accent i)) y
    else row_of (accent_words i accent) y

abbrev pub accent_row : Drawing → ℕ → AccentValue → ℕ → List Fact
accent_row d i accent y = titled_row d i accent y ++ heading i 36 100 ++ table accent.own accent.pairs

abbrev pub some_accent_row : Drawing → ℕ → Option AccentValue → ℕ → List Fact
some_accent_row d i None y = []
some_accent_row d i (Some accent) y = accent_row d i accent y

-- the row of an accent, at its place of the list
abbrev pub listed_accent : Drawing → ℕ → ℕ → ℕ → List Fact
listed_accent d y place i = some_accent_row d i (accent_at d.map i) (y + 52 * place)

unfoldable pub accents_list : Drawing → List ℕ → ℕ → List Fact
accents_list d accents y =
    if length accents == 0 then []
    else headline_at (y + 26) (codes "h") (codes "Accents") ∷ [] ++ numbered (listed_accent d (y + 40)) 0 accents

abbrev pub accents_height : ℕ → ℕ
accents_height count = if count == 0 then 0 else 40 + count * 52

abbrev pub is_dead_key : ℕ → Cell → Bool
is_dead_key i (Char c) = false
is_dead_key i (Act (a.DeadKey j)) = j == i
is_dead_key i (Act action) = false

abbrev pub has_dead_key : ℕ → Entry → Bool
has_dead_key i e = list_any (is_dead_key i) e.cells

abbrev pub slot_bears_dead_key : MapValue → Half → ℕ → ℕ → Bool
slot_bears_dead_key m half i k = has_dead_key i (entry_at m (slot_of half k))

-- a slot of the half bears the dead key of an accent
unfoldable pub bears_dead_key : MapValue → Half → ℕ → Bool
bears_dead_key m half i = any_below (slot_bears_dead_key m half i) key_count

-- the accent has no character, and a drawn half bears its dead key
unfoldable pub is_silent : MapValue → ℕ → Bool
is_silent m i =
    ((accent_or_blank m i).own == 0) && (bears_dead_key m Lower i || (is_upper_live m && bears_dead_key m Upper i))

unfoldable pub silent_accents : MapValue → List ℕ
silent_accents m = passing (is_silent m) accent_limit

abbrev pub silent_name : ℕ → ℕ → List Fact
silent_name place i = heading i (36 + 94 * place) 101

abbrev pub silent_line : ℕ → List Fact
silent_line y =
    headline_at (y + 16) (codes "l") (codes "Dead keys without an accent: the console answers them with an error")
    ∷ group [] (codes "16") (decimal (y + 26)) ∷ row_field (codes "row") ∷ []

-- the marks and the names of dead keys without an accent, side by side below a line, if there are any
unfoldable pub silent_list : List ℕ → ℕ → List Fact
silent_list accents y =
    if length accents == 0 then []
    else silent_line y ++ numbered silent_name 0 accents ++ End ∷ []

abbrev pub silent_height : ℕ → ℕ
silent_height count = if count == 0 then 0 else 82
