-- The note on modifiers that stay on tells its events.
use Rattle.keymap_lint_text.proofs.Common.{◌≡◌, Bool, true, false, List, [], ◌∷◌, ◌++◌, ℕ, codes, refl, length, ◌==◌}
use Rattle.keymap_lint_text.proofs.Common.{append_assoc, append-nil, if◌then◌else◌, list_all, Event, Modifier, filled}
use Rattle.keymap_lint_text.specs.Notes.{events_text, modifiers_text, sticks_text}
use Rattle.keymap_lint_text.specs.Promises.{is_no_colon, TellsEvents}
use Rattle.keymap_lint_text.specs.declared.words.TheConstants as words

words_told : (one : Bool) (m e : List ℕ)
    → filled words.STICKS.now (m ∷ (if one then words.ONE_STAYS.now else words.SOME_STAY.now) ∷ e ∷ [])
    ≡ m ++ codes " " ++ (if one then codes "stays" else codes "stay") ++ codes " on with no key pressed, after: " ++ e
unfolding filled
words_told true m e = simp (append_assoc, append-nil)
words_told false m e = simp (append_assoc, append-nil)

-- the words of the program, filled with the modifiers and the events
pub sticks_is : (stuck : List Modifier) (events : List Event)
    → filled words.STICKS.now (modifiers_text stuck
    ∷ (if length stuck == 1 then words.ONE_STAYS.now else words.SOME_STAY.now) ∷ events_text events ∷ [])
    ≡ sticks_text stuck events
unfolding sticks_text
sticks_is stuck events = words_told (length stuck == 1) (modifiers_text stuck) (events_text events)

abbrev between : Bool → List ℕ
between one = codes " " ++ (if one then codes "stays" else codes "stay") ++ codes " on with no key pressed, after"

told_as : (one : Bool) (m e : List ℕ)
    → m ++ codes " " ++ (if one then codes "stays" else codes "stay") ++ codes " on with no key pressed, after: " ++ e
    ≡ m ++ between one ++ codes ": " ++ e
told_as true m e = simp append_assoc
told_as false m e = simp append_assoc

no_colon_between : (one : Bool) → list_all is_no_colon (between one) ≡ true
no_colon_between true = refl
no_colon_between false = refl

pub tells_events : (modifiers : List Modifier) (events : List Event)
    → TellsEvents modifiers events (sticks_text modifiers events)
unfolding sticks_text
tells_events modifiers events =
    let one = length modifiers == 1 in record {
      words = between one;
      no_colon = no_colon_between one;
      told = told_as one (modifiers_text modifiers) (events_text events);
    }
