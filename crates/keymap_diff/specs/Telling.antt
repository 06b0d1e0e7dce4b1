-- Whether two keymaps can be told apart at a console: two consoles, one with each, get the same events, and answer one
-- of them differently.
use Rattle.std.specs.Prelude.{◌≡◌, ◌⊎◌, ℕ, ◌<◌, ◌≤◌, Bool, true, List, [], ◌∷◌, ◌++◌, All}
use Rattle.std.specs.Prelude.{reverse}
use Rattle.keymap_core.specs.declared.action.Lock.{Lock}
use Rattle.keymap_core.specs.declared.action.Modifier.{Modifier}
use Rattle.keymap_core.specs.Maps.{MapValue}
use Rattle.console_core.specs.declared.event.Answer.{Answer}
use Rattle.console_core.specs.declared.event.Event.{Event}
use Rattle.console_core.specs.declared.event.Event.TheVariants.{Press, Release}
use Rattle.console_core.specs.Headline.{IsSafe}
use Rattle.console_core.specs.History.{between, answer_to, answers_to, is_on_after, is_locked_after}
use Rattle.console_core.specs.History.{accent_pending_after, HasKeys, HasNoLoads}
use Rattle.console_states.specs.declared.held.Move.{Move}
use Rattle.console_states.specs.Moves.{alone, IsForgetful, IsPath, presses_along, state_after}
use Rattle.console_states.specs.Sights.{CanForget, IsAdmitted, IsClean}
use Rattle.console_states.specs.Sticking.{presses, IsPressOrRelease, ReleasesPressedKeys, ReachesMoreThan, state_limit}
use Rattle.keymap_diff.specs.declared.telling.Telling.{Telling}
use Rattle.keymap_diff.specs.declared.telling.Telling.TheVariants.{Told, Never, Undecided}

-- the newest event of the list is answered alike
abbrev pub IsAnsweredAlike : MapValue → MapValue → List Event → Type 0
IsAnsweredAlike m n [] = Unit {0}
IsAnsweredAlike m n (e ∷ h) = answer_to (between m m) h e ≡ answer_to (between n n) h e

-- After the list the same modifiers and locks are on, and the same accent is pending.
pub record IsKeptAlike (m n : MapValue) (h : List Event) : Type 0 where
  pub on : (i : Modifier) → is_on_after (between m m) i h ≡ is_on_after (between n n) i h
  pub locked : (l : Lock) → is_locked_after (between m m) l h ≡ is_locked_after (between n n) l h
  pub pending : accent_pending_after (between m m) h ≡ accent_pending_after (between n n) h

-- The list tells them apart: its newest event is answered differently.
abbrev pub TellsApart : MapValue → MapValue → List Event → Type 0
TellsApart m n h = IsAnsweredAlike m n h → ⊥

-- No list that is spoken of does, and after each the consoles keep the same. Since such a list is one without its
-- newest event too, all answers to it are the same.
abbrev pub IsNeverTold : MapValue → MapValue → Bool → Type 0
IsNeverTold m n forgets =
    (h : List Event) → IsAdmitted m forgets h → IsAnsweredAlike m n h × IsKeptAlike m n h

-- no clean list that tells them apart has fewer presses
abbrev pub HasFewestTelling : MapValue → MapValue → List Event → Type 0
HasFewestTelling m n h = (g : List Event) → IsAdmitted m true g → TellsApart m n g → presses h ≤ presses g

-- each list that tells them apart, clean or not, has more than p
abbrev pub IsNotToldBy : MapValue → MapValue → ℕ → Type 0
IsNotToldBy m n p = (g : List Event) → HasKeys g → HasNoLoads g → TellsApart m n g → p < presses g

-- at most p presses lead to where a key can forget that it holds a modifier
abbrev pub CanForgetBy : MapValue → ℕ → Type 0
CanForgetBy m p =
    (path : List Move) × IsPath (alone m) path × (presses_along path ≤ p)
    × IsForgetful (alone m) (state_after (alone m) path)

-- the newest event of the list is answered so
abbrev pub IsAnsweredBy : MapValue → List Event → Answer → Type 0
IsAnsweredBy m [] a = ⊥
IsAnsweredBy m (e ∷ h) a = answer_to (between m m) h e ≡ a

-- Behind a clean list it has one press more, or that press, which is answered alike, and the release of its key.
abbrev pub EndsByPress : MapValue → MapValue → List Event → Type 0
EndsByPress m n h =
    (g : List Event) × (k : ℕ) × IsAdmitted m true g
    × ((h ≡ Press k ∷ g) ⊎ ((h ≡ Release k ∷ Press k ∷ g) × IsAnsweredAlike m n (Press k ∷ g)))

-- The list of presses and releases, each release of a pressed key, tells them apart by these answers to its newest
-- event, which is its last press or the release behind that.
pub record IsToldBy (m n : MapValue) (h : List Event) (old new : Answer) : Type 0 where
  pub apart : TellsApart m n h
  pub old_answer : IsAnsweredBy m h old
  pub new_answer : IsAnsweredBy n h new
  pub keys : HasKeys h
  pub sent : All IsPressOrRelease h
  pub releases : ReleasesPressedKeys h
  pub ends : EndsByPress m n h

-- What each answer of the search says. It is undecided where more states are reached than a search goes over, and what
-- it says of all lists goes as far, or to where a key can forget that it holds a modifier.
abbrev pub IsTelling : MapValue → MapValue → Telling → Type 0
IsTelling m n (Told events old new) =
    IsToldBy m n (reverse events.items) old new × HasFewestTelling m n (reverse events.items)
IsTelling m n (Never forgets) = IsNeverTold m n forgets × (forgets ≡ true → CanForget m)
IsTelling m n (Undecided p) =
    ((q : ℕ) × ReachesMoreThan (alone m) state_limit q × (p ≤ q) × ((p ≡ q) ⊎ CanForgetBy m p)) × IsNotToldBy m n p

-- The answers to these events, in their order, are the same but for the last, which are these.
abbrev pub DifferAtLast : MapValue → MapValue → List Event → Answer → Answer → Type 0
DifferAtLast m n events old new =
    (same : List Answer) × (answers_to (between m m) [] events ≡ same ++ old ∷ [])
    × (answers_to (between n n) [] events ≡ same ++ new ∷ [])

-- The list that the search answers is answered alike up to its last event.
abbrev pub ToldListsDifferAtLast : Type 0
ToldListsDifferAtLast =
    (m n : MapValue) (h : List Event) (old new : Answer) → IsToldBy m n h old new → HasFewestTelling m n h
    → DifferAtLast m n (reverse h) old new

-- Where no list tells them apart, the answers to each are the same.
abbrev pub AnswersAreSame : Type 0
AnswersAreSame =
    (m n : MapValue) (forgets : Bool) (es : List Event) → IsNeverTold m n forgets → IsAdmitted m forgets (reverse es)
    → answers_to (between m m) [] es ≡ answers_to (between n n) [] es

-- In a safe keymap all lists are clean: what is said of clean lists is said of all.
abbrev pub SafeListsAreClean : Type 0
SafeListsAreClean = (m : MapValue) (h : List Event) → IsSafe m → HasKeys h → IsClean (between m m) h

-- a keymap is told apart from itself by no list
abbrev pub SameIsNeverTold : Type 0
SameIsNeverTold = (m : MapValue) (h : List Event) → TellsApart m m h → ⊥
