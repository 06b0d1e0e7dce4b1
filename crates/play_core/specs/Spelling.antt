-- How a script is written: a line for each event in its plainest spelling, and comments between these lines.
use Rattle.std.specs.Prelude.{◌≡◌, ℕ, ◌<◌, ◌==◌, Bool, true, false, List, [], ◌∷◌, ◌++◌, All, codes, decimal}
use Rattle.std.specs.List.{flat_map, list_any}
use Rattle.keymap_core.specs.Numbers.{key_count}
use Rattle.play_core.specs.Types.{Event, What, Down, Repeat, Up, Reset, Load, Sent}
use Rattle.console_core.specs.declared.event.Event.TheVariants as event
use Rattle.play_core.specs.Scripts.{key_of}

abbrev pub command_text : What → List ℕ
command_text (Down k) = codes "down " ++ decimal k
command_text (Repeat k) = codes "repeat " ++ decimal k
command_text (Up k) = codes "up " ++ decimal k
command_text Reset = codes "reset"
command_text Load = codes "load"

abbrev pub mark_text : Bool → List ℕ
mark_text true = codes "lost "
mark_text false = []

abbrev pub sent_text : Sent → List ℕ
sent_text s = mark_text s.lost ++ command_text s.what

-- the line of what is sent
abbrev pub sent_line : Sent → List ℕ
sent_line s = sent_text s ++ codes "\n"

-- a line that is written: of what is sent, or a comment
pub data Line : Type 0 where
  sends : Sent → Line
  says : List ℕ → Line

abbrev pub line_text : Line → List ℕ
line_text (sends s) = sent_line s
line_text (says text) = codes "#" ++ text ++ codes "\n"

-- the text of lines, one after another
abbrev pub text_of : List Line → List ℕ
text_of lines = flat_map line_text lines

abbrev pub sent_by : Line → List Sent
sent_by (sends s) = s ∷ []
sent_by (says text) = []

-- what the lines send, in their order
abbrev pub sent_in : List Line → List Sent
sent_in lines = flat_map sent_by lines

abbrev pub has_line_feed : List ℕ → Bool
has_line_feed text = list_any (λ b. b == 10) text

-- a key is 0 to 127, and a comment ends with its line
abbrev pub IsWritable : Line → Type 0
IsWritable (sends s) = key_of s.what < key_count
IsWritable (says text) = has_line_feed text ≡ false

abbrev pub AreWritable : List Line → Type 0
AreWritable lines = All IsWritable lines

-- what is sent to deliver the event: a press by `down`
abbrev pub what_of : Event → What
what_of (event.Press k) = Down k
what_of (event.Release k) = Up k
what_of event.Reset = Reset
what_of event.Load = Load

abbrev pub sent_of : Event → Sent
sent_of e = record { lost = false; what = what_of e }

-- the line of a script that delivers the event
abbrev pub event_line : Event → List ℕ
event_line e = sent_line (sent_of e)
