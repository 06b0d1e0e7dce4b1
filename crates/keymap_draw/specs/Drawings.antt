-- What a picture is drawn of: a keymap with findings of a check, on a board, and the name that it is headed by; and of a
-- change the keymap as it was before.
use Rattle.std.specs.Prelude.{ℕ, nat_lt, List, [], ◌∷◌, ◌++◌, codes, length, map, take, if◌then◌else◌}
use Rattle.std.specs.Prelude.{◌==◌, Bool, true, false}
use Rattle.bstr.specs.Utf8.{lossy_chars}
use Rattle.keymap_core.specs.Maps.{MapValue}
use Rattle.keymap_check.specs.declared.finding.Finding.{Finding}
use Rattle.keyboard.specs.declared.board.Board.{Board}
use Rattle.keymap_draw.specs.declared.change.About.{About}
use Rattle.keymap_draw.specs.declared.change.About.TheVariants.{Whole, Slot, Accent}
use Rattle.keymap_draw.specs.declared.change.ChangeLine.{ChangeLine}
use Rattle.keymap_draw.specs.Sheets.{is_seen}

-- both tell of the same
abbrev pub is_about : About → About → Bool
is_about Whole Whole = true
is_about (Slot s) (Slot t) = s == t
is_about (Accent i) (Accent j) = i == j
is_about about other = false

-- the first line that tells of something
abbrev pub line_about : List ChangeLine → About → List ℕ
line_about [] about = []
line_about (l ∷ lines) about = if is_about about l.about then l.words else line_about lines about

pub record Drawing : Type 0 where
  pub map : MapValue
  pub findings : List Finding
  pub board : Board
  -- the characters of the name
  pub name : List ℕ
  -- whether a change is drawn; the keymap before it, its name, and the lines that tell the change: none where nothing
  -- has changed
  pub is_change : Bool
  pub old : MapValue
  pub old_name : List ℕ
  pub lines : List ChangeLine

-- U+FFFD stands for a character that XML doesn't take or that a terminal doesn't show
abbrev pub shown_character : ℕ → ℕ
shown_character c = if is_seen c then c else 0xfffd

-- words that are given in bytes; one U+FFFD stands for each maximal piece that isn't UTF-8
abbrev pub shown_words : List ℕ → List ℕ
shown_words given = map shown_character (lossy_chars given)

-- of more than 48 characters the first 47, and an ellipsis
abbrev pub shortened : List ℕ → List ℕ
shortened cs = if nat_lt 48 (length cs) then take 47 cs ++ 0x2026 ∷ [] else cs

-- the name that is given in bytes
unfoldable pub shown_name : List ℕ → List ℕ
shown_name given = shortened (shown_words given)

-- the name by which a picture is headed, also where an empty one is given
abbrev pub name_of : List ℕ → List ℕ
name_of [] = codes "Console keymap"
name_of given = shown_name given
