-- What differs between two keymaps, and what tells them apart, as a script. What is told stands at the places `{}` of
-- its words.
use Rattle.std.specs.Prelude.{◌≡◌, ℕ, ◌+◌, ◌-◌, ◌==◌, Bool, true, false, List, [], ◌∷◌, ◌++◌, ◌||◌, ◌&&◌, not}
use Rattle.std.specs.Prelude.{codes, decimal, drop, length, nat_le, nat_lt, take}
use Rattle.std.specs.Prelude.{slice_index, slice_index_or, Option, Some, None, if◌then◌else◌}
use Rattle.std.specs.Global.{Vec}
use Rattle.std.specs.Bool.{beq}
use Rattle.std.specs.List.{before_first, flat_map, list_all, list_any, range_with_len}
use Rattle.keymap_core.specs.Actions.{name_of}
use Rattle.keymap_core.specs.Maps.{MapValue, n_keys_of, n_accs_of, entry_at, cell_at, accent_or_blank}
use Rattle.keymap_core.specs.contracts.entry.CellPartialEq.TheImpl as cell_equal
use Rattle.keymap_core.specs.declared.entry.Cell.{Cell as CellValue}
use Rattle.keymap_core.specs.declared.entry.Cell.TheVariants.{Char, Act}
use Rattle.keymap_text.specs.Printed.{flag_letter}
use Rattle.keymap_diff.specs.Changes.{IsChange, IsMark, MeetsChange, result_at}
use Rattle.keymap_diff.specs.declared.change.Change.{Change}
use Rattle.keymap_diff.specs.declared.change.Change.TheVariants.{Slots, Cell, Letter, Accents, Accent, Pair}
use Rattle.keymap_diff.specs.declared.change.Change.TheVariants.{ListedOtherwise}
use Rattle.keymap_diff.specs.declared.telling.Telling.{Telling}
use Rattle.keymap_diff.specs.declared.telling.Telling.TheVariants.{Told, Never, Undecided}
use Rattle.keymap_names.specs.Characters.{readable}
use Rattle.keymap_names.specs.Lists.{accent_name, column_names, comma}
use Rattle.console_core.specs.declared.event.Answer.{Answer}
use Rattle.console_core.specs.declared.event.Answer.TheVariants as answer
use Rattle.console_core.specs.declared.event.Event.{Event}
use Rattle.console_core.specs.declared.event.Event.TheVariants.{Press, Release}
use Rattle.console_core.specs.History.{pressed}
use Rattle.messages.specs.Filled.{filled}
use Rattle.play_core.specs.Spelling.{sent_line, sent_of}
use Rattle.play_core.specs.declared.sent.Sent.{Sent}
use Rattle.play_core.specs.declared.sent.What.TheVariants as what
use Rattle.script_text.specs.Comments.{comment, said_line, said_lines}

-- whether two cells are the same, as `==` tells
abbrev pub same_cell : CellValue → CellValue → Bool
same_cell = cell_equal.eq-value.it

-- ---- what a line tells of a change

-- a cell: a character as a reader knows it, or the name of an action
abbrev pub cell_told : CellValue → List ℕ
cell_told (Char c) = readable c
cell_told (Act a) = name_of a

-- what an accent makes of a base; none where it doesn't take it
abbrev pub made_text : Option ℕ → List ℕ
made_text None = codes "none"
made_text (Some c) = readable c

-- an accent's own character, if it has one
abbrev pub own_text : ℕ → List ℕ
own_text c = if c == 0 then codes "none" else readable c

-- the last of so many slots, and the last of so many accents
abbrev pub last_slot : ℕ → List ℕ
last_slot n = if n == 0 then codes "none" else decimal (n - 1)

abbrev pub last_accent : ℕ → List ℕ
last_accent n = if n == 0 then codes "none" else accent_name (n - 1)

-- what it is in the old keymap, and what in the new one
abbrev pub values_of : Change → List ℕ × List ℕ
values_of (Slots a b) = (last_slot a, last_slot b)
values_of (Cell s c a b u) = (cell_told a, cell_told b)
values_of (Letter s a b u) = (flag_letter a ∷ [], flag_letter b ∷ [])
values_of (Accents a b) = (last_accent a, last_accent b)
values_of (Accent i a b u) = (own_text a, own_text b)
values_of (Pair i base a b u) = (made_text a, made_text b)
values_of (ListedOtherwise i) = ([], [])

abbrev pub changed_text : Change → List ℕ
changed_text x = filled (codes "{} -> {}") ((values_of x).0 ∷ (values_of x).1 ∷ [])

-- no press meets what changes
abbrev pub is_unseen : Change → Bool
is_unseen (Cell s c a b u) = u
is_unseen (Letter s a b u) = u
is_unseen (Accent i a b u) = u
is_unseen (Pair i base a b u) = u
is_unseen x = false

abbrev pub unseen_text : Bool → List ℕ
unseen_text is_unseen = if is_unseen then codes " (unseen)" else []

-- what changes, as it is in a keymap
abbrev pub value_in : MapValue → Change → List ℕ
value_in m (Slots a b) = last_slot (n_keys_of m)
value_in m (Cell s c a b u) = cell_told (cell_at m s c)
value_in m (Letter s a b u) = flag_letter (entry_at m s).flag ∷ []
value_in m (Accents a b) = last_accent (n_accs_of m)
value_in m (Accent i a b u) = own_text (accent_or_blank m i).own
value_in m (Pair i base a b u) = made_text (result_at m i base)
value_in m (ListedOtherwise i) = []

-- What a line tells of a change is what is so in the old keymap and then what is so in the new one, and that it is
-- unseen exactly where no press meets it, unless a search gave up.
abbrev pub LinesTellChanges : Type 0
LinesTellChanges =
    (known : Bool) (m n : MapValue) (x : Change) → IsChange known m n x
    → IsMark known m n (MeetsChange x) (is_unseen x)
    × (changed_text x ≡ filled (codes "{} -> {}") (value_in m x ∷ value_in n x ∷ []))

-- ---- the lines of what differs

-- The line of a change: those of the last slot and of the last accent, and one for each slot and each accent.
abbrev pub line_of : Change → ℕ
line_of (Slots a b) = 0
line_of (Accents a b) = 1
line_of (Cell s c a b u) = 2 + s
line_of (Letter s a b u) = 2 + s
line_of (Accent i a b u) = 258 + i
line_of (Pair i base a b u) = 258 + i
line_of (ListedOtherwise i) = 258 + i

-- what begins the line
abbrev pub title_of : Change → List ℕ
title_of (Slots a b) = filled (codes "last slot: {}") (changed_text (Slots a b) ∷ [])
title_of (Accents a b) = filled (codes "last accent: {}") (changed_text (Accents a b) ∷ [])
title_of (Cell s c a b u) = filled (codes "slot {}") (decimal s ∷ [])
title_of (Letter s a b u) = filled (codes "slot {}") (decimal s ∷ [])
title_of (Accent i a b u) = accent_name i
title_of (Pair i base a b u) = accent_name i
title_of (ListedOtherwise i) = accent_name i

-- cells that change alike, and are met or not
abbrev pub are_alike : Change → Change → Bool
are_alike (Cell s c a b u) (Cell t d x y v) = same_cell a x && same_cell b y && beq u v
are_alike x y = false

abbrev pub column_if : Bool → Change → List ℕ
column_if true (Cell s c a b u) = c ∷ []
column_if is_alike x = []

-- the columns of a line's cells that change like this one
abbrev pub columns_like : List Change → Change → List ℕ
columns_like line x = flat_map (λ y. column_if (are_alike x y) y) line

abbrev pub listed_column : List ℕ → ℕ → List ℕ
listed_column columns i = comma i ++ slice_index_or column_names (slice_index columns i) []

abbrev pub columns_text : List ℕ → List ℕ
columns_text columns =
    if length columns == 8 then codes "all columns"
    else flat_map (listed_column columns) (range_with_len 0 (length columns))

-- what of its slot or accent changes
abbrev pub part_of : List Change → Change → List ℕ
part_of line (Cell s c a b u) = columns_text (columns_like line (Cell s c a b u))
part_of line (Letter s a b u) = codes "lock"
part_of line (Accent i a b u) = codes "own"
part_of line (Pair i base a b u) = readable base
part_of line x = []

-- what is told of a change, marked as unseen or not
abbrev pub told_text : Bool → List Change → Change → List ℕ
told_text marked line x =
    filled (codes "; {}: {}{}") (part_of line x ∷ changed_text x ∷ unseen_text marked ∷ [])

-- An item of a line, in which all is unseen or not.
abbrev pub item_text : Bool → List Change → Change → List ℕ
item_text all line (Slots a b) = []
item_text all line (Accents a b) = []
item_text all line (ListedOtherwise i) = codes "; listed otherwise"
item_text all line (Cell s c a b u) = told_text (u && not all) line (Cell s c a b u)
item_text all line (Letter s a b u) = told_text (u && not all) line (Letter s a b u)
item_text all line (Accent i a b u) = told_text (u && not all) line (Accent i a b u)
item_text all line (Pair i base a b u) = told_text (u && not all) line (Pair i base a b u)

-- the change at a place of a list
abbrev pub change_at : List Change → ℕ → Change
change_at found i = slice_index_or found i (ListedOtherwise 0)

-- an item stands where the first of its columns does
abbrev pub item_at : Bool → List Change → ℕ → List ℕ
item_at all line i =
    if list_any (are_alike (change_at line i)) (take i line) then [] else item_text all line (change_at line i)

abbrev pub items_text : Bool → List Change → List ℕ
items_text all line = flat_map (item_at all line) (range_with_len 0 (length line))

-- the line of such changes, the first of which is this one
abbrev pub line_words : Change → List Change → List ℕ
line_words x line =
    filled (codes "{}{}{}")
    (title_of x ∷ unseen_text (list_all is_unseen line) ∷ items_text (list_all is_unseen line) line ∷ [])

abbrev pub line_text : Change → List Change → List ℕ
line_text x line = said_line (line_words x line)

-- a change that isn't of the line of the one before it
abbrev pub begins_line : List Change → ℕ → Bool
begins_line found i = i == 0 || not (line_of (change_at found (i - 1)) == line_of (change_at found i))

-- the changes from a place on that are of the line of the one there
abbrev pub is_elsewhere : ℕ → Change → Bool
is_elsewhere line x = not (line_of x == line)

abbrev pub line_from : List Change → ℕ → List Change
line_from found i = before_first (is_elsewhere (line_of (change_at found i))) (drop i found)

abbrev pub line_at : List Change → ℕ → List ℕ
line_at found i = if begins_line found i then line_text (change_at found i) (line_from found i) else []

-- the lines of all that differs
abbrev pub lines_text : List Change → List ℕ
lines_text found = flat_map (line_at found) (range_with_len 0 (length found))

-- what is told of keymaps that are the same
abbrev pub same_text : List ℕ
same_text = comment (codes " same") []

-- ---- the verdict and the events

-- an answer, its character as a reader knows it
unfoldable pub answer_told : Answer → List ℕ
answer_told answer.None = codes "none"
answer_told answer.Error = codes "error"
answer_told (answer.Char c false) = readable c
answer_told (answer.Char c true) = filled (codes "meta {}") (readable c ∷ [])
answer_told (answer.Special a) = name_of a
answer_told answer.BackTab = codes "btab"
answer_told (answer.Released a) = filled (codes "released {}") (name_of a ∷ [])

-- Whether no list of events tells the keymaps apart, or what the last one is answered under each.
unfoldable pub verdict_words : Telling → List ℕ
verdict_words (Told events a b) = filled (codes "told apart: {} -> {}") (answer_told a ∷ answer_told b ∷ [])
verdict_words (Never false) = codes "never told apart"
verdict_words (Never true) = codes "not told apart before a modifier sticks"
verdict_words (Undecided p) =
    filled (codes "undecided: no list of up to {} presses tells them apart") (decimal p ∷ [])

abbrev pub verdict_line : Telling → List ℕ
verdict_line telling = said_line (verdict_words telling)

-- whether the key is pressed once an event came
abbrev pub is_pressed_by : Event → ℕ → Bool → Bool
is_pressed_by (Press j) k was = was || j == k
is_pressed_by (Release j) k was = was && not (j == k)
is_pressed_by e k was = false

-- what is sent for an event behind others: a repeat for a press of a key that is pressed
abbrev pub sent_behind : List Event → Event → Sent
sent_behind h (Press k) =
    if pressed k h then record { lost = false; what = what.Repeat k } else sent_of (Press k)
sent_behind h e = sent_of e

-- what is sent for events behind others, the newest of which is first
abbrev pub sent_along : List Event → List Event → List Sent
sent_along h [] = []
sent_along h (e ∷ events) = sent_behind h e ∷ sent_along (e ∷ h) events

-- the events that tell the keymaps apart
abbrev pub events_of : Telling → List Event
events_of (Told events a b) = events.items
events_of x = []

-- The verdict, lines of consequences, what differs, and the events.
abbrev pub diff_text : Telling → List (Vec ℕ) → List Change → List ℕ
diff_text telling told found =
    verdict_line telling ++ said_lines told ++ lines_text found
    ++ flat_map sent_line (sent_along [] (events_of telling))

-- so it is with lines of consequences of which the words aren't spoken of
abbrev pub IsDiffText : Telling → List Change → List ℕ → Type 0
IsDiffText telling found text = (told : List (Vec ℕ)) × (text ≡ diff_text telling told found)

-- ---- the answer in brief

-- one of these lines begins at the place
abbrev pub is_line_at : ℕ → ℕ → List Change → ℕ → Bool
is_line_at from to found i =
    begins_line found i && nat_le from (line_of (change_at found i)) && nat_lt (line_of (change_at found i)) to

abbrev pub place_if : ℕ → ℕ → List Change → ℕ → List ℕ
place_if from to found i = if is_line_at from to found i then i ∷ [] else []

-- where lines begin, of those from one to before another
abbrev pub line_places : ℕ → ℕ → List Change → List ℕ
line_places from to found = flat_map (place_if from to found) (range_with_len 0 (length found))

-- so many, or nothing
abbrev pub counted : List ℕ → List ℕ → ℕ → List ℕ
counted one more n = if n == 0 then [] else if n == 1 then one else filled more (decimal n ∷ [])

-- what stands between two counts
abbrev pub between_counts : ℕ → ℕ → List ℕ
between_counts slots accents = if slots == 0 || accents == 0 then [] else codes ", "

-- how many slots and accents differ, if some do
abbrev pub differ_line : ℕ → ℕ → List ℕ
differ_line slots accents =
    if slots == 0 && accents == 0 then []
    else
    comment (codes " differ: {}{}{}")
    (counted (codes "1 slot") (codes "{} slots") slots ∷ between_counts slots accents
    ∷ counted (codes "1 accent") (codes "{} accents") accents ∷ [])

-- the line of the last slot or of the last accent
abbrev pub last_line : Change → List ℕ
last_line x = if nat_lt (line_of x) 2 then line_text x (x ∷ []) else []

-- The verdict, lines of consequences, the last slot and the last accent where they differ, and how many lines there are
-- else.
abbrev pub brief_text : Telling → List (Vec ℕ) → List Change → List ℕ
brief_text telling told found =
    verdict_line telling ++ said_lines told ++ flat_map last_line found
    ++ differ_line (length (line_places 2 258 found)) (length (line_places 258 273 found))

abbrev pub IsBriefText : Telling → List Change → List ℕ → Type 0
IsBriefText telling found text = (told : List (Vec ℕ)) × (text ≡ brief_text telling told found)
