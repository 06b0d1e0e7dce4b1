-- What the printed scripts do when they are played back.
use Rattle.std.specs.Prelude.{◌≡◌, ℕ, List, [], ◌++◌, Option, Some, None, codes, map, reverse}
use Rattle.keymap_core.specs.Maps.{MapValue}
use Rattle.console_states.specs.declared.outcome.Sticking.{Sticking}
use Rattle.console_states.specs.declared.outcome.Sticking.TheVariants.{Sticks, Never, Undecided}
use Rattle.console_core.specs.declared.event.Event.{Event}
use Rattle.console_core.specs.History.{Maps, between}
use Rattle.console_states.specs.Sticking.{HasFewestPresses, HasFewestPressesBetween, LeavesOn, LeavesOnBetween}
use Rattle.keymap_check.specs.Shown.{LeavesModifierOn}
use Rattle.keymap_text.specs.Meaning.{Spells}
use Rattle.keymap_check.specs.Report.{report_of}
use Rattle.keymap_check.specs.Scripts.{demonstration_of}
use Rattle.keymap_cover.specs.declared.parts.Cover.{Cover}
use Rattle.keymap_cover.specs.Covering.{Covers}
use Rattle.play_core.specs.declared.sent.Sent.{Sent}
use Rattle.play_core.specs.declared.show.Show.{Show}
use Rattle.play_core.specs.declared.show.Show.TheVariants as show
use Rattle.play_core.specs.Delivery.{delivered}
use Rattle.play_core.specs.Scripts.{IsScript}
use Rattle.play_core.specs.Spelling.{sent_of}
use Rattle.kmap_runs.specs.Sentences.{alone}
use Rattle.play_core.specs.Written.{played_text}
use Rattle.script_text.specs.Replayed.{events_sent}
use Rattle.kmap_runs.specs.Report.{check_text}
use Rattle.kmap_runs.specs.Search.{found_text}

-- The text is a script, and played on a new console of the map alone it types the bytes.
pub record ScriptTypes (m : MapValue) (script bytes : List ℕ) : Type 0 where
  pub sent : List Sent
  pub is : IsScript script sent
  pub typed : played_text show.Typed (alone m) sent ≡ bytes

-- what is sent for this list of events, the newest first: each once, in their order, and none is lost
abbrev pub sent_for : List Event → List Sent
sent_for h = map sent_of (reverse h)

-- The text is a script that sends exactly these events, and so delivers them all.
pub record Delivers (script : List ℕ) (h : List Event) : Type 0 where
  pub is : IsScript script (sent_for h)
  pub nothing_else : (sent : List Sent) → IsScript script sent → sent ≡ sent_for h
  pub delivers : reverse (delivered (sent_for h)) ≡ h

-- What is printed of an answer of the search: where a modifier sticks, a script that delivers exactly the events of the
-- answer, which are so; and else a script of no events.
abbrev pub FoundReplays : (List Event → Type 0) → Sticking → Type 0
FoundReplays IsSo (Sticks events on) =
    Delivers (found_text (Sticks events on)) (reverse events.items) × IsSo (reverse events.items)
FoundReplays IsSo Never = IsScript (found_text Never) []
FoundReplays IsSo (Undecided p) = IsScript (found_text (Undecided p)) []

-- The events leave a modifier on, by the fewest presses.
abbrev pub SticksSoonest : MapValue → List Event → Type 0
SticksSoonest m h = LeavesOn m h × HasFewestPresses m h

abbrev pub SticksSoonestBetween : Maps → List Event → Type 0
SticksSoonestBetween ms h = LeavesOnBetween ms h × HasFewestPressesBetween ms h

abbrev pub AnswerReplays : MapValue → Sticking → Type 0
AnswerReplays m found = FoundReplays (SticksSoonest m) found

abbrev pub AnswerReplaysBetween : Maps → Sticking → Type 0
AnswerReplaysBetween ms found = FoundReplays (SticksSoonestBetween ms) found

-- Behind the report of the check stands that there is no demonstration, or a script that delivers exactly its events,
-- which leave a modifier on.
abbrev pub ShowsDemonstration : MapValue → Option (List Event) → List ℕ → Type 0
ShowsDemonstration m None text = text ≡ check_text (report_of m) ++ codes "demonstration: none\n"
ShowsDemonstration m (Some events) text =
    (script : List ℕ) × (text ≡ check_text (report_of m) ++ (codes "demonstration:\n" ++ script))
    × Delivers script (reverse events) × LeavesModifierOn m (reverse events)

abbrev pub ShowsScript : MapValue → List ℕ → Type 0
ShowsScript m text = ShowsDemonstration m (demonstration_of m) text

-- ---- a script that tests a console

-- What is shown of the events of a cover of the keymap that the text spells, played on it.
abbrev pub PlaysCover : Show → List ℕ → List ℕ → Type 0
PlaysCover show text told =
    (m : MapValue) × (c : Cover) × Spells text m × Covers m c
    × (told ≡ played_text show (between m m) (events_sent c))
