-- What stands below the board in a picture of a change: how much changed, and the lines that tell it, but for those in
-- the titles of keys and accents.
use Rattle.std.specs.Prelude.{ℕ, ◌+◌, ◌*◌, ◌==◌, nat_le, nat_lt, Bool, true, false, ◌||◌, ◌&&◌, List, [], ◌∷◌, ◌++◌}
use Rattle.std.specs.Prelude.{codes, decimal, length, if◌then◌else◌}
use Rattle.std.specs.List.{before_first, filter, flat_map, list_any}
use Rattle.keymap_core.specs.Borne.{is_upper_live}
use Rattle.keymap_core.specs.Numbers.{key_count}
use Rattle.keymap_draw.specs.declared.change.About.{About}
use Rattle.keymap_draw.specs.declared.change.About.TheVariants.{Whole, Slot, Accent}
use Rattle.keymap_draw.specs.declared.change.ChangeLine.{ChangeLine}
use Rattle.keymap_draw.specs.declared.words.TheConstants.{CHANGE_STYLE}
use Rattle.keymap_draw.specs.Drawings.{Drawing}
use Rattle.keymap_draw.specs.Facts.{Fact, headline_at, numbered}
use Rattle.keymap_draw.specs.Facts.Fact.{Text}
use Rattle.keymap_draw.specs.Lists.{has_character}
use Rattle.keymap_draw.specs.Sheets.{facts_over, in_svg}

-- ---- rows

-- how many places a row has
abbrev pub row_places : ℕ
row_places = 185

abbrev pub is_space : ℕ → Bool
is_space c = c == 32

-- the word in front
abbrev pub word_in : List ℕ → List ℕ
word_in cs = before_first is_space cs

-- a blank ends its row, behind so many characters, if the word behind it has no room there
abbrev pub ends_row : ℕ → ℕ → List ℕ → Bool
ends_row before c behind = is_space c && nat_lt row_places (before + 1 + length (word_in behind))

abbrev pub indent : List ℕ
indent = codes "    "

-- the rows of what is left of a line, of which the first one has begun; the next ones begin with four blanks
unfoldable pub rows_behind : List ℕ → List ℕ → List (List ℕ)
rows_behind row [] = row ∷ []
rows_behind row (c ∷ cs) =
    if ends_row (length row) c cs then row ∷ rows_behind indent cs else rows_behind (row ++ c ∷ []) cs

-- the rows of a line: it is broken at blanks
abbrev pub rows_of : List ℕ → List (List ℕ)
rows_of line = rows_behind [] line

-- the line stands in the title of a key or of an accent
abbrev pub is_drawn : Drawing → About → Bool
is_drawn d Whole = false
is_drawn d (Slot s) = nat_lt s key_count || is_upper_live d.map
is_drawn d (Accent i) = has_character d.map i

abbrev pub listed_rows : Drawing → ChangeLine → List (List ℕ)
listed_rows d line = if is_drawn d line.about then [] else rows_of line.words

-- the rows of the lines that stand in no title
abbrev pub changed_rows : Drawing → List (List ℕ)
changed_rows d = flat_map (listed_rows d) d.lines

-- ---- how much changed

abbrev pub is_slot : About → Bool
is_slot (Slot s) = true
is_slot about = false

abbrev pub is_upper_slot : About → Bool
is_upper_slot (Slot s) = nat_le key_count s
is_upper_slot about = false

abbrev pub is_accent : About → Bool
is_accent (Accent i) = true
is_accent about = false

-- how many of the lines tell of slots, and of accents
abbrev pub slots_in : List ChangeLine → ℕ
slots_in lines = length (filter (λ l. is_slot l.about) lines)

abbrev pub accents_in : List ChangeLine → ℕ
accents_in lines = length (filter (λ l. is_accent l.about) lines)

-- slots are told as keys where none is of the upper half
abbrev pub slots_noun : Bool → ℕ → List ℕ
slots_noun true n = if n == 1 then codes "slot" else codes "slots"
slots_noun false n = if n == 1 then codes "key" else codes "keys"

abbrev pub have_upper_slot : List ChangeLine → Bool
have_upper_slot lines = list_any (λ l. is_upper_slot l.about) lines

abbrev pub noun_in : List ChangeLine → List ℕ
noun_in lines = slots_noun (have_upper_slot lines) (slots_in lines)

abbrev pub accents_noun : ℕ → List ℕ
accents_noun n = if n == 1 then codes "accent" else codes "accents"

-- of what it changed
abbrev pub changed_from : List ℕ → List ℕ
changed_from name = codes "Changed from " ++ name ++ codes ":" ++ codes " "

-- how much of slots and accents changed; where none of them did, that no slot did
abbrev pub changed_counts : List ℕ → ℕ → List ℕ → ℕ → List ℕ → List ℕ
changed_counts from slots noun accents accents_noun =
    if accents == 0 then from ++ decimal slots ++ codes " " ++ noun
    else if slots == 0 then from ++ decimal accents ++ codes " " ++ accents_noun
    else from ++ decimal slots ++ codes " " ++ noun ++ codes "," ++ codes " " ++ decimal accents ++ codes " "
    ++ accents_noun

-- what changed of a keymap, by the lines that tell it
abbrev pub changed_said : List ℕ → List ChangeLine → List ℕ
changed_said name lines =
    if length lines == 0 then changed_from name ++ codes "nothing"
    else
    changed_counts (changed_from name) (slots_in lines) (noun_in lines) (accents_in lines)
    (accents_noun (accents_in lines))

-- ---- the list

abbrev pub listed_row : ℕ → ℕ → List ℕ → List Fact
listed_row y i said =
    Text (codes "text") (codes "l")
    ((codes "x", codes "28") ∷ (codes "y", decimal (y + 52 + i * 20)) ∷ (codes "xml:space", codes "preserve") ∷ [])
    said ∷ []

abbrev pub marks_said : List ℕ
marks_said =
    codes "Amber: base or shift differs; pale amber: only other columns, or the lock letter. "
    ++ codes "Below right on a changed key stands what it was, in the first of its four cells that differs."

-- below the rows, what the marks mean
abbrev pub list_of : ℕ → List (List ℕ) → List Fact
list_of y rows =
    if length rows == 0 then []
    else numbered (listed_row y) 0 rows ++ listed_row y (length rows) marks_said

-- a headline and the rows, where the picture is of a change
unfoldable pub changes_list : Drawing → List (List ℕ) → ℕ → List Fact
changes_list d rows y =
    if d.is_change then headline_at (y + 26) (codes "h") (changed_said d.old_name d.lines) ∷ [] ++ list_of y rows
    else []

-- the rows with what the marks mean, of so many
abbrev pub list_rows : ℕ → ℕ
list_rows rows = if rows == 0 then 0 else rows + 1

abbrev pub changes_height : Drawing → ℕ → ℕ
changes_height d rows = if d.is_change then 58 + list_rows rows * 20 else 0

-- the style of the marks
abbrev pub marks_style : Drawing → List Fact
marks_style d = if d.is_change then facts_over in_svg CHANGE_STYLE.now [] else []
