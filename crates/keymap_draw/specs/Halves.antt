-- What the drawing of one half of the slots tells: its headline, the keys of its board, and those that the board
-- doesn't have. It begins at y.
use Rattle.std.specs.Prelude.{ℕ, ◌+◌, ◌*◌, ◌/◌, ◌%◌, ◌==◌, Bool, ◌&&◌, ◌||◌, not, List, [], ◌∷◌, ◌++◌, length}
use Rattle.std.specs.Prelude.{codes, decimal, if◌then◌else◌}
use Rattle.std.specs.List.{flat_map}
use Rattle.std.specs.Option.{is_some}
use Rattle.keymap_core.specs.Borne.{is_upper_live}
use Rattle.keymap_core.specs.Maps.{entry_at}
use Rattle.keymap_core.specs.Numbers.{key_count}
use Rattle.keymap_core.specs.Below.{passing}
use Rattle.keymap_draw.specs.declared.board.Run.{Run}
use Rattle.keymap_draw.specs.declared.board.Shape.TheVariants as shape
use Rattle.keymap_draw.specs.declared.board.TheConstants.{RUNS}
use Rattle.keymap_draw.specs.declared.half.Half.{Half}
use Rattle.keymap_draw.specs.declared.half.Half.TheVariants.{Lower, Upper}
use Rattle.keyboard.specs.Boards.{is_on}
use Rattle.keymap_draw.specs.Boards.{Row, keys_in}
use Rattle.keymap_draw.specs.Drawings.{Drawing}
use Rattle.keymap_draw.specs.Facts.{Fact, cap_by, headline_at, hidden, numbered, text}
use Rattle.keymap_draw.specs.Facts.Fact.{End, Figure}
use Rattle.keymap_draw.specs.Keys.{key, is_blank_entry}
use Rattle.keymap_draw.specs.Marks.{mark_of}

-- the slot of a key
abbrev pub slot_of : Half → ℕ → ℕ
slot_of Lower k = k
slot_of Upper k = k % key_count + key_count

-- a key of the board, which begins at y
abbrev pub board_key : Drawing → Half → ℕ → Row → List Fact
board_key d half y row = key d (slot_of half row.code) (28 + row.x) (y + 12 + row.y) row.shape

-- keys side by side, if the board has them
abbrev pub run_keys : Drawing → Half → ℕ → Run → List Fact
run_keys d half y run = flat_map (board_key d half y) (keys_in d.board run)

-- the slot isn't blank, or it differs
abbrev pub is_worth_a_key : Drawing → ℕ → Bool
is_worth_a_key d slot = not (is_blank_entry (entry_at d.map slot)) || is_some (mark_of d slot)

-- the key isn't on the board, and its slot is worth one
unfoldable pub is_other : Drawing → Half → ℕ → Bool
is_other d half k = not (is_on d.board k) && is_worth_a_key d (slot_of half k)

unfoldable pub other_keys : Drawing → Half → List ℕ
other_keys d half = passing (is_other d half) key_count

-- the i-th of the keys that the board doesn't have, 22 in a row
abbrev pub other_key : Drawing → Half → ℕ → ℕ → ℕ → List Fact
other_key d half y i k = key d (slot_of half k) (28 + i % 22 * 64) (y + 26 + i / 22 * 64) shape.A

-- how high a board with its headline is
abbrev pub board_height : ℕ
board_height = 472

-- how high the keys are that a board doesn't have: 34 for the line, and 64 for each begun row of them
abbrev pub others_height : ℕ → ℕ
others_height others = if others == 0 then 0 else 34 + (others + 21) / 22 * 64

-- whether the keymap is accepted, and how many keys the check names
abbrev pub verdict : ℕ → ℕ → Fact
verdict y count =
    if count == 0 then text (codes "1464") (decimal y) (codes "h r ok") (codes "accepted")
    else if count == 1 then text (codes "1464") (decimal y) (codes "h r no") (codes "refused: 1 finding")
    else text (codes "1464") (decimal y) (codes "h r no") (codes "refused: " ++ decimal count ++ codes " findings")

-- the keymap, or its lower half
abbrev pub name : Drawing → ℕ → List Fact
name d y =
    if is_upper_live d.map then headline_at y (codes "h") (d.name ++ codes ", lower half") ∷ []
    else headline_at y (codes "h") d.name ∷ []

-- which half it is, and of the lower one the verdict
abbrev pub headline : Drawing → Half → ℕ → List Fact
headline d Lower y = name d y ++ verdict y (length d.findings) ∷ []
headline d Upper y = headline_at y (codes "h") (codes "Upper half: while ashift or alock is on") ∷ []

-- the key that shows where the legends stand, and what its number is
abbrev pub sample_of : List ℕ → ℕ → List Fact
sample_of number y =
    hidden (codes "1212") (decimal y) ∷ cap_by (codes "f")
    ∷ text (codes "8") (codes "57") [] (number ++ codes ", locks")
    ∷ text (codes "10") (codes "20") (codes "v") (codes "shift")
    ∷ text (codes "10") (codes "41") (codes "v") (codes "base")
    ∷ text (codes "130") (codes "20") (codes "v r a") (codes "alt shift")
    ∷ text (codes "130") (codes "41") (codes "v r a") (codes "alt")
    ∷ End ∷ []

abbrev pub sample : Half → ℕ → List Fact
sample Lower y = sample_of (codes "key code") y
sample Upper y = sample_of (codes "slot") y

abbrev pub others_line : ℕ → ℕ → List Fact
others_line y count =
    if count == 0 then [] else headline_at (y + 16) (codes "l") (codes "Keys that this board doesn't have") ∷ []

-- the keys that the board doesn't have, below a line, if there are any
abbrev pub others : Drawing → Half → ℕ → List ℕ → List Fact
others d half y keys = others_line y (length keys) ++ numbered (other_key d half y) 0 keys

-- the field behind a board
abbrev pub panel : ℕ → Fact
panel y =
    Figure (codes "rect") (codes "panel")
    ((codes "x", codes "16") ∷ (codes "y", decimal y) ∷ (codes "width", codes "1460") ∷ (codes "height", codes "420")
    ∷ (codes "rx", codes "16") ∷ [])

-- the headline of a half and its board
unfoldable pub board_facts : Drawing → Half → ℕ → List Fact
board_facts d half y =
    headline d half (y + 26) ++ panel (y + 40) ∷ [] ++ flat_map (run_keys d half (y + 40)) RUNS
    ++ sample half (y + 52)
