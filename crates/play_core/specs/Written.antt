-- What is written of events: a line for each, or the bytes that they type.
use Rattle.std.specs.Prelude.{ℕ, Bool, true, false, List, [], ◌∷◌, ◌++◌, codes, decimal, encode_utf8}
use Rattle.std.specs.List.{flat_map}
use Rattle.play_core.specs.Types.{Modifier, Lock, Event, Answer, Sent}
use Rattle.keymap_core.specs.declared.action.Action.TheVariants as action
use Rattle.keymap_core.specs.Actions.{name_of, modifiers, locks}
use Rattle.console_core.specs.declared.event.Event.TheVariants.{Press, Release, Reset, Load}
use Rattle.console_core.specs.declared.event.Answer.TheVariants as answer
use Rattle.console_core.specs.History.{Maps, is_on_after, is_locked_after, answer_to, answers_to}
use Rattle.play_core.specs.declared.show.Show.{Show}
use Rattle.play_core.specs.declared.show.Show.TheVariants as show
use Rattle.play_core.specs.Delivery.{delivered}

unfoldable pub event_text : Event → List ℕ
event_text (Press k) = codes "press " ++ decimal k
event_text (Release k) = codes "release " ++ decimal k
event_text Reset = codes "reset"
event_text Load = codes "load"

unfoldable pub answer_text : Answer → List ℕ
answer_text answer.None = codes "none"
answer_text answer.Error = codes "error"
answer_text (answer.Char c false) = codes "char " ++ decimal c
answer_text (answer.Char c true) = codes "meta char " ++ decimal c
answer_text (answer.Special a) = name_of a
answer_text answer.BackTab = codes "btab"
answer_text (answer.Released a) = codes "released " ++ name_of a

-- a name behind a blank, where it is on
abbrev pub name_if : Bool → List ℕ → List ℕ
name_if true name = codes " " ++ name
name_if false name = []

abbrev pub or_none : List ℕ → List ℕ
or_none [] = codes " none"
or_none (b ∷ bs) = b ∷ bs

unfoldable pub names_of_modifiers : (Modifier → Bool) → List Modifier → List ℕ
names_of_modifiers is_on ms = flat_map (λ m. name_if (is_on m) (name_of (action.Mod m))) ms

unfoldable pub names_of_locks : (Lock → Bool) → List Lock → List ℕ
names_of_locks is_locked ls = flat_map (λ l. name_if (is_locked l) (name_of (action.Lock l))) ls

-- an event, the answer to it, and the modifiers and locks that are on after it
unfoldable pub line_of : Event → Answer → (Modifier → Bool) → (Lock → Bool) → List ℕ
line_of e a is_on is_locked =
    event_text e ++ codes ": " ++ answer_text a
    ++ codes "; mods" ++ or_none (names_of_modifiers is_on modifiers)
    ++ codes "; locks" ++ or_none (names_of_locks is_locked locks)
    ++ codes "\n"

-- the line of the event e after the events h
abbrev pub line_after : Maps → List Event → Event → List ℕ
line_after ms h e = line_of e (answer_to ms h e) (λ m. is_on_after ms m (e ∷ h)) (λ l. is_locked_after ms l (e ∷ h))

-- the lines of later events in their order, after the events h, of which the newest is first
unfoldable pub lines_after : Maps → List Event → List Event → List ℕ
lines_after ms h [] = []
lines_after ms h (e ∷ later) = line_after ms h e ++ lines_after ms (e ∷ h) later

-- what an answer types: a character, behind an escape under meta, and a sequence for the back tab
unfoldable pub typed_by : Answer → List ℕ
typed_by (answer.Char c false) = encode_utf8 c
typed_by (answer.Char c true) = 27 ∷ encode_utf8 c
typed_by answer.BackTab = 27 ∷ codes "[Z"
typed_by _ = []

unfoldable pub typed_text : List Answer → List ℕ
typed_text answers = flat_map typed_by answers

unfoldable pub text_after : Show → Maps → List Event → List Event → List ℕ
text_after show.Lines ms h events = lines_after ms h events
text_after show.Typed ms h events = typed_text (answers_to ms h events)

-- what is written of a script on two maps
abbrev pub played_text : Show → Maps → List Sent → List ℕ
played_text shown ms sent = text_after shown ms [] (delivered sent)
