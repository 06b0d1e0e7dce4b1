-- The line of a place in a text.
use Rattle.std.specs.Prelude.{◌≡◌, ℕ, ◌+◌, ◌-◌, ◌<◌, ◌≤◌, ◌==◌, Bool, false, List, length, take, drop, slice_index}
use Rattle.std.specs.List.{after_last}
use Rattle.keymap_text.specs.Lexical.{leading, stays_on_line}
use Rattle.keymap_text.specs.Meaning.{line}

abbrev pub is_feed : ℕ → Bool
is_feed c = c == 10

-- the bytes of the line that stand before a place: what is behind the last LF
abbrev pub before_in_line : List ℕ → ℕ → List ℕ
before_in_line text place = after_last is_feed (take place text)

-- the bytes of the line from a place on, up to the next LF
abbrev pub rest_of_line : List ℕ → ℕ → List ℕ
rest_of_line text place = take (leading stays_on_line (drop place text)) (drop place text)

-- where the line of a place ends
abbrev pub line_end : List ℕ → ℕ → ℕ
line_end text place = place + leading stays_on_line (drop place text)

-- A line with this number begins here.
pub record IsLineStart (text : List ℕ) (n start : ℕ) : Type 0 where
  pub inside : start ≤ length text
  pub begins : 0 < start → stays_on_line (slice_index text (start - 1)) ≡ false
  pub number : line text start ≡ n

-- Lines begin here, one behind the other.
pub record AreStarts (text starts : List ℕ) : Type 0 where
  pub some : 0 < length starts
  pub first : slice_index starts 0 ≡ 0
  pub each : (i : ℕ) → i < length starts → IsLineStart text (i + 1) (slice_index starts i)
  pub next : (i : ℕ) → i + 1 < length starts → line_end text (slice_index starts i) + 1 ≡ slice_index starts (i + 1)

-- All lines of a text begin here: the last one ends where the text does.
pub record AreLines (text starts : List ℕ) : Type 0 where
  pub lines : AreStarts text starts
  pub last : line_end text (slice_index starts (length starts - 1)) ≡ length text
