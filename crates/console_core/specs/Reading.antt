-- The notions of a history read on the events themselves, at a position (an event and the events before it).
use Rattle.std.specs.Prelude.{◌≡◌, ◌≢◌, ℕ, ◌==◌, length, if◌then◌else◌, Bool, false, true, ◌&&◌, not, List, [], ◌∷◌}
use Rattle.std.specs.Prelude.{◌++◌, Option, None, Some, ◌↔◌}
use Rattle.std.specs.Option.{is_some}
use Rattle.console_core.specs.Types.{Action, Holding, Lock, Meta, Cell, Char, Act, Answer, Event, Press, Release, Reset}
use Rattle.console_core.specs.Types.{Load}
use Rattle.keymap_core.specs.declared.action.Holding.TheVariants as holding
use Rattle.keymap_core.specs.Actions.{holding_action}
use Rattle.keymap_core.specs.Maps.{MapValue}
use Rattle.console_core.specs.declared.event.Answer.TheVariants as answer
use Rattle.keymap_core.specs.Borne.{is_borne}
use Rattle.console_core.specs.Positions.{count_since, is_odd, positions_without}
use Rattle.console_core.specs.Resolved.{ResolvedEvent, unless_nop, keeps_taken, usable_dead_key, look, remembered}
use Rattle.console_core.specs.Resolved.{taken_over, is_this_action, held, locked}
use Rattle.console_core.specs.Answers.{answer_char, answer_action, answer_release}
use Rattle.console_core.specs.History.{Maps, in_force, loaded, concerns, pressed, resolved, resolved_event, is_on_after}
use Rattle.console_core.specs.History.{accent_pending_after, answer_to}

-- what a key looks up, remembers and takes after h
abbrev pub look_after : Maps → ℕ → List Event → Cell
look_after ms k h = look (in_force ms h) (resolved ms h) k

abbrev pub remembered_after : Maps → ℕ → List Event → Option Action
remembered_after ms k h = remembered k (resolved ms h)

abbrev pub taken_of : Option Action → Cell → Option Action
taken_of o (Char c) = None
taken_of o (Act a) = Some (taken_over o a)

abbrev pub taken_after : Maps → ℕ → List Event → Option Action
taken_after ms k h = taken_of (remembered_after ms k h) (look_after ms k h)

abbrev pub raises_at : Maps → Holding → Event → List Event → Bool
raises_at ms a (Press k) h = is_this_action (taken_after ms k h) (holding_action a)
raises_at ms a _ h = false

abbrev pub lowers_at : Maps → Holding → Event → List Event → Bool
lowers_at ms a (Press k) h = false
lowers_at ms a (Release k) h = is_this_action (remembered_after ms k h) (holding_action a)
lowers_at ms a Reset h = true
lowers_at ms a Load h = true

-- On, of a modifier, and Down, of a lock
abbrev pub is_held_after : Maps → Holding → List Event → Bool
is_held_after ms a h = held a (resolved ms h)

abbrev pub turns_at : Maps → Lock → Event → List Event → Bool
turns_at ms l e h = raises_at ms (holding.Lock l) e h && not (is_held_after ms (holding.Lock l) h)

-- a load of a map where no key bears the lock
abbrev pub unlocks_at : Maps → Lock → Event → List Event → Bool
unlocks_at ms l Load h = not (is_borne (loaded ms h) (holding.Lock l))
unlocks_at ms l _ h = false

-- no element of `later` passes the test, where `tail` are the elements before them
abbrev pub NoneOf : {A : Type 0} → (A → List A → Bool) → List A → List A → Type 0
NoneOf test [] tail = Unit {0}
NoneOf test (x ∷ later) tail = (test x (later ++ tail) ≡ false) × NoneOf test later tail

-- some element starts it, and no later one ends it
abbrev pub SomeSince : {A : Type 0} → (A → List A → Bool) → (A → List A → Bool) → List A → Type 0
SomeSince {A} starts ends h =
    (later : List A) × (x : A) × (before : List A) × (h ≡ later ++ x ∷ before) × (starts x before ≡ true)
    × NoneOf ends later (x ∷ before)

-- the elements `recent` are those after the last one that passes `ends`, the elements `old` that one and those before
abbrev pub IsSinceLast : {A : Type 0} → (A → List A → Bool) → List A → List A → Type 0
IsSinceLast ends recent [] = NoneOf ends recent []
IsSinceLast ends recent (x ∷ old) = NoneOf ends recent (x ∷ old) × (ends x old ≡ true)

-- of the elements since the last one that passes `ends`, the first at which `pick` gives something gives b
abbrev pub FirstSince : {A B : Type 0} → (A → List A → Bool) → (A → List A → Option B) → List A → B → Type 0
FirstSince {A} ends pick h b =
    (later : List A) × (x : A) × (earlier : List A) × (old : List A) × (h ≡ (later ++ x ∷ earlier) ++ old)
    × IsSinceLast ends (later ++ x ∷ earlier) old × (pick x (earlier ++ old) ≡ Some b)
    × NoneOf (λ y before. is_some (pick y before)) earlier old

-- at none of them `pick` gives something
abbrev pub NothingSince : {A B : Type 0} → (A → List A → Bool) → (A → List A → Option B) → List A → Type 0
NothingSince {A} ends pick h =
    (recent : List A) × (old : List A) × (h ≡ recent ++ old) × IsSinceLast ends recent old
    × NoneOf (λ y before. is_some (pick y before)) recent old

-- a reset, a load, a release of the key, or a press of it whose look is a character
abbrev pub is_character : Cell → Bool
is_character (Char c) = true
is_character (Act a) = false

abbrev pub forgets_at : Maps → ℕ → Event → List Event → Bool
forgets_at ms k (Press j) h = (j == k) && is_character (look_after ms j h)
forgets_at ms k (Release j) h = j == k
forgets_at ms k Reset h = true
forgets_at ms k Load h = true

-- the look of a press of the key, if it is an action other than nop
abbrev pub offered : Cell → Option Action
offered (Char c) = None
offered (Act a) = unless_nop a

abbrev pub offers_at : Maps → ℕ → Event → List Event → Option Action
offers_at ms k (Press j) h = if j == k then offered (look_after ms j h) else None
offers_at ms k _ h = None

abbrev pub RememberedByPositions : Type 0
RememberedByPositions =
    (ms : Maps) (k : ℕ) (h : List Event) (a : Action)
    → (remembered_after ms k h ≡ Some a) ↔ FirstSince (forgets_at ms k) (offers_at ms k) h a

abbrev pub NothingRememberedByPositions : Type 0
NothingRememberedByPositions =
    (ms : Maps) (k : ℕ) (h : List Event)
    → (remembered_after ms k h ≡ None) ↔ NothingSince (forgets_at ms k) (offers_at ms k) h

-- a release, or a press that takes nop, a modifier or a lock
abbrev pub keeps_option : Option Action → Bool
keeps_option None = false
keeps_option (Some a) = keeps_taken a

abbrev pub keeps_at : Maps → Event → List Event → Bool
keeps_at ms (Press k) h = keeps_option (taken_after ms k h)
keeps_at ms (Release k) h = true
keeps_at ms Reset h = false
keeps_at ms Load h = false

-- the dead key that a press takes, if it is usable in the map m
abbrev pub dead_key_of : MapValue → Option Action → Option ℕ
dead_key_of m None = None
dead_key_of m (Some a) = usable_dead_key m a

abbrev pub dead_key_taken_at : Maps → MapValue → Event → List Event → Option ℕ
dead_key_taken_at ms m (Press k) h = dead_key_of m (taken_after ms k h)
dead_key_taken_at ms m _ h = None

-- all positions of the run take the dead key i
abbrev pub AllTake : Maps → MapValue → ℕ → List (Event × List Event) → Type 0
AllTake ms m i [] = Unit {0}
AllTake ms m i (p ∷ run) = (dead_key_taken_at ms m p.0 p.1 ≡ Some i) × AllTake ms m i run

-- the last of the positions doesn't take the dead key i
abbrev pub LastDoesNotTake : Maps → MapValue → ℕ → List (Event × List Event) → Type 0
LastDoesNotTake ms m i [] = Unit {0}
LastDoesNotTake ms m i (p ∷ rest) = dead_key_taken_at ms m p.0 p.1 ≢ Some i

-- at the end of the positions an odd number of presses, and no more, take the dead key i one after another
abbrev pub EndsInOddRun : Maps → MapValue → ℕ → List (Event × List Event) → Type 0
EndsInOddRun ms m i positions =
    (run : List (Event × List Event)) × (rest : List (Event × List Event)) × (positions ≡ run ++ rest)
    × AllTake ms m i run × LastDoesNotTake ms m i rest × (is_odd (length run) ≡ true)

abbrev pub PendingByRun : Type 0
PendingByRun =
    (ms : Maps) (h : List Event) (i : ℕ)
    → (accent_pending_after ms h ≡ Some i) ↔ EndsInOddRun ms (in_force ms h) i (positions_without (keeps_at ms) h)

abbrev pub HeldByPositions : Type 0
HeldByPositions =
    (ms : Maps) (a : Holding) (h : List Event)
    → (is_held_after ms a h ≡ true) ↔ SomeSince (raises_at ms a) (lowers_at ms a) h

abbrev pub LockedByCount : Type 0
LockedByCount =
    (ms : Maps) (l : Lock) (h : List Event)
    → locked l (resolved ms h) ≡ is_odd (count_since (unlocks_at ms l) (turns_at ms l) h)

-- the last event that is about the key, or is a reset or a load, is a press of the key
abbrev pub LastPresses : ℕ → List Event → Type 0
LastPresses k h =
    (later : List Event) × (before : List Event) × (h ≡ later ++ Press k ∷ before)
    × NoneOf (λ e _. concerns k e) later (Press k ∷ before)

abbrev pub PressedByPositions : Type 0
PressedByPositions = (k : ℕ) (h : List Event) → (pressed k h ≡ true) ↔ LastPresses k h

-- What an event is resolved to, so what a pressed key looks up, depends on the events before it alone.
abbrev pub ResolvedAtPrefix : Type 0
ResolvedAtPrefix =
    (ms : Maps) (later : List Event) (e : Event) (before : List Event)
    → (newer : List ResolvedEvent) × (length newer ≡ length later)
    × (resolved ms (later ++ e ∷ before) ≡ newer ++ resolved_event ms before e ∷ resolved ms before)

-- The answer to a press, by the key's look, to a release, to a reset and to a load.
abbrev pub answer_to_look : Maps → ℕ → List Event → Cell → Answer
answer_to_look ms k h (Char c) = answer_char (in_force ms h) (accent_pending_after ms h) (is_on_after ms Meta h) c
answer_to_look ms k h (Act a) =
    answer_action (in_force ms h) (accent_pending_after ms h) (is_on_after ms Meta h)
    (taken_over (remembered_after ms k h) a)

abbrev pub AnswersByCases : Type 0
AnswersByCases =
    (ms : Maps) (k : ℕ) (h : List Event)
    → (answer_to ms h (Press k) ≡ answer_to_look ms k h (look_after ms k h))
    × (answer_to ms h (Release k) ≡ answer_release (remembered_after ms k h))
    × (answer_to ms h Reset ≡ answer.None) × (answer_to ms h Load ≡ answer.None)
