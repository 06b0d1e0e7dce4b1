-- The reading of a line by tests in order. Mirrors `read_line` of src/script_line.rt and what it calls, and
-- `plain_line` of src/plain_line.rt; `Scripts` says what a line means.
use Rattle.std.specs.Prelude.{◌≡◌, ℕ, nat_lt, ◌<◌, Bool, true, false, ◌&&◌, List, [], ◌∷◌, ◌++◌, codes, Option, None}
use Rattle.std.specs.Prelude.{Some, Result, Ok, Err, if◌then◌else◌, take, drop}
use Rattle.std.specs.Str.{bytes_eq}
use Rattle.std.specs.Char.{digit_value}
use Rattle.std.specs.Str.Parse.{digits_value}
use Rattle.play_core.specs.Types.{LineFault, Form, Key, What, Down, Repeat, Up, Reset, Load, Sent}
use Rattle.play_core.specs.Scripts.{is_there, parts_of, lines_of, words_of, IsNumber, IsEvent, AreEvents}
use Rattle.keymap_core.specs.Numbers.{key_count}

abbrev pub all_digits : List ℕ → Bool
all_digits [] = true
all_digits (b ∷ bs) = nat_lt (digit_value b) 10 && all_digits bs

unfoldable pub key_in : List ℕ → Result ℕ LineFault
key_in number =
    if all_digits number
    then (if nat_lt (digits_value 10 number) key_count then Ok (digits_value 10 number) else Err Key)
    else Err Form

abbrev pub of_key : (ℕ → What) → Result ℕ LineFault → Result What LineFault
of_key what (Ok k) = Ok (what k)
of_key what (Err f) = Err f

unfoldable pub what_with_key : List ℕ → List ℕ → Result What LineFault
what_with_key word number =
    if bytes_eq word (codes "down") then of_key (λ k. Down k) (key_in number)
    else if bytes_eq word (codes "repeat") then of_key (λ k. Repeat k) (key_in number)
    else if bytes_eq word (codes "up") then of_key (λ k. Up k) (key_in number)
    else Err Form

unfoldable pub what_alone : List ℕ → Result What LineFault
what_alone word =
    if bytes_eq word (codes "reset") then Ok Reset
    else if bytes_eq word (codes "load") then Ok Load
    else Err Form

unfoldable pub what_of : List ℕ → List (List ℕ) → Result What LineFault
what_of word [] = what_alone word
what_of word (number ∷ []) = what_with_key word number
what_of word (number ∷ more ∷ rest) = Err Form

unfoldable pub sent_by : Bool → Result What LineFault → Result (Option Sent) LineFault
sent_by lost (Ok w) = Ok (Some (record { lost = lost; what = w }))
sent_by lost (Err f) = Err f

unfoldable pub reading_of_lost : List (List ℕ) → Result (Option Sent) LineFault
reading_of_lost [] = Err Form
reading_of_lost (word ∷ rest) = sent_by true (what_of word rest)

unfoldable pub reading : List (List ℕ) → Result (Option Sent) LineFault
reading [] = Ok None
reading (word ∷ rest) =
    if bytes_eq word (codes "lost") then reading_of_lost rest else sent_by false (what_of word rest)

-- The first lines of the script, as many as the number, were read as these events, and the rest is what follows them.
pub record IsReadTo (script : List ℕ) (number : ℕ) (sent : List Sent) (rest : List ℕ) : Type 0 where
  pub events : AreEvents (take number (lines_of script)) sent
  pub parts : drop number (parts_of script) ≡ parts_of rest

-- the text begins with the number of this key and a line feed, behind which the rest stands
abbrev pub BeginsWithKey : List ℕ → ℕ → List ℕ → Type 0
BeginsWithKey text key rest =
    (number : List ℕ) × (text ≡ number ++ 10 ∷ rest) × IsNumber number key × (is_there number ≡ true)
    × (key < key_count)

-- the first line of the text is this event, and the rest follows that line
abbrev pub BeginsWithEvent : List ℕ → What → List ℕ → Type 0
BeginsWithEvent text what rest =
    (line : List ℕ) × (parts_of text ≡ line ∷ parts_of rest)
    × IsEvent (words_of line) (record { lost = false; what = what })
