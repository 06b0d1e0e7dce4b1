-- What the printed scripts send when they are played.
use Rattle.std.specs.Prelude.{◌≡◌, ◌≢◌, ℕ, true, false, List, [], ◌∷◌, ◌++◌, map, reverse}
use Rattle.keymap_core.specs.Maps.{MapValue}
use Rattle.console_core.specs.declared.event.Answer.{Answer}
use Rattle.console_core.specs.declared.event.Event.{Event}
use Rattle.console_core.specs.History.{pressed}
use Rattle.keymap_cover.specs.declared.parts.Cover.{Cover}
use Rattle.keymap_cover.specs.Covering.{Covers, history}
use Rattle.keyboard_cover.specs.Covering as keyboard
use Rattle.keyboard_cover.specs.declared.cover.KeyboardCover.{KeyboardCover}
use Rattle.keymap_diff.specs.Telling.{DifferAtLast}
use Rattle.keymap_diff.specs.declared.telling.Telling.{Telling}
use Rattle.keymap_diff.specs.declared.telling.Telling.TheVariants as telling
use Rattle.play_core.specs.declared.sent.Sent.{Sent}
use Rattle.play_core.specs.declared.sent.What.{What}
use Rattle.play_core.specs.declared.sent.What.TheVariants as what
use Rattle.play_core.specs.Delivery.{delivered}
use Rattle.play_core.specs.Scripts.{IsScript}
use Rattle.script_text.specs.Cover.{sent_of_event}

-- ---- a script that tests a console

-- what is sent for the events of a cover, in their order
abbrev pub events_sent : Cover → List Sent
events_sent c = map sent_of_event c.events.items

-- The text is a script of the events of a cover of the map, and of nothing else. It delivers the events that this
-- cover speaks of.
pub record ShowsCover (m : MapValue) (script : List ℕ) : Type 0 where
  pub cover : Cover
  pub covers : Covers m cover
  pub is : IsScript script (events_sent cover)
  pub nothing_else : (sent : List Sent) → IsScript script sent → sent ≡ events_sent cover
  pub delivers : reverse (delivered (events_sent cover)) ≡ history cover

-- The text is a script of the events of a cover by a keyboard, and of nothing else. It delivers the events that this
-- cover speaks of.
pub record ShowsKeyboardCover (c : KeyboardCover) (script : List ℕ) : Type 0 where
  pub is : IsScript script (map sent_of_event c.script.events.items)
  pub nothing_else : (sent : List Sent) → IsScript script sent → sent ≡ map sent_of_event c.script.events.items
  pub delivers : reverse (delivered (map sent_of_event c.script.events.items)) ≡ keyboard.history c

-- ---- a script that tells two keymaps apart

-- What is sent fits the keys that are pressed after other events, the newest of which is first: `down` is of a key that
-- isn't pressed, `repeat` and `up` are of one that is, and there is nothing else.
abbrev pub FitsKeys : List Event → What → Type 0
FitsKeys h (what.Down k) = pressed k h ≡ false
FitsKeys h (what.Repeat k) = pressed k h ≡ true
FitsKeys h (what.Up k) = pressed k h ≡ true
FitsKeys h what.Reset = ⊥
FitsKeys h what.Load = ⊥

-- All that is sent fits the keys after what is delivered before it, and none of it is lost.
abbrev pub AllFit : List Sent → Type 0
AllFit sent =
    (before after : List Sent) (s : Sent) → sent ≡ before ++ s ∷ after
    → (s.lost ≡ false) × FitsKeys (reverse (delivered before)) s.what

-- The text is a script that sends exactly these events, none of them lost, as hands can. Of two consoles that play it,
-- one of each keymap alone, the answers are the same but for the last, which is this one of each.
pub record TellsApartBy (m n : MapValue) (script : List ℕ) (events : List Event) (old new : Answer) : Type 0 where
  pub sent : List Sent
  pub is : IsScript script sent
  pub nothing_else : (others : List Sent) → IsScript script others → others ≡ sent
  pub delivers : delivered sent ≡ events
  pub fit : AllFit sent
  pub answers : DifferAtLast m n (delivered sent) old new
  pub differ : old ≢ new

-- What is printed of keymaps that differ is a script: where they are told apart, of the events that do so, and else of
-- no events.
abbrev pub TellingReplays : MapValue → MapValue → List ℕ → Telling → Type 0
TellingReplays m n text (telling.Told events old new) = TellsApartBy m n text events.items old new
TellingReplays m n text (telling.Never forgets) = IsScript text []
TellingReplays m n text (telling.Undecided p) = IsScript text []
