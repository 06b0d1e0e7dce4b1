-- The theorem on stuck modifiers, to be read from the top: what holds of the modifiers and locks of a console after
-- every list of delivered events, however long. A list has the newest event first: in `e ∷ h` the events before e are
-- h.
--
-- The notions in their order, each with the file that defines it. Those of a list of events:
--   event        src/event.rt: a press or a release of a key, a reset, or a load.
--   in force     History: a console has two keymaps; each load exchanges them, and the first is in force before any.
--   pressed      History: the last event that is about the key, or is a reset or a load, is a press of the key.
--   quiet        History: no key is pressed.
-- Of a keymap:
--   cell of      keymap_core Bearers: a key has the cells of its slot, and those of its upper slot where upper slots
--                are live.
--   bears        keymap_core Bearers: one of the key's cells is the modifier or lock. It bears it throughout if no
--                other key does and all its cells are it.
--   safe         here: no key has both a modifier or lock and a character among its cells.
--   steady       here: one key alone bears the lock, and all its cells are actions other than nop.
-- Of a console, each a statement on the events so far. Resolved says them of events together with what their keys
-- looked up, and Reading says the same of the plain events; History has the last four under the names that stand here.
--   look         Columns: the cell that a press of a key looks up, by which modifiers and locks are on.
--   remembered   Resolved: the first action other than nop that a key looked up since it was released, looked up a
--                character, or a reset or a load came.
--   taken        Resolved: what a press acts as: the action that is looked up, or nop where another one is remembered.
--   on           Resolved: some press took the modifier, and no later event was a reset, a load, or a release of a key
--                that remembers it.
--   locked       Resolved: an odd number of presses turned the lock since the last load of a keymap in which nobody
--                bears it.
--   pending      Resolved: the dead key of the presses at the end, where they are odd in number; releases, and presses
--                that take nop, a modifier or a lock, don't count.
--   answered     Answers: what a console says to an event, by what is looked up, taken, remembered, pending and on.
--
-- The last lines tell which public calls promise the clauses. Facts has the steps by which they are proved.
use Rattle.std.specs.Prelude.{◌≡◌, ℕ, ◌<◌, ◌⊎◌, ◌==◌, ◌&&◌, not, List, [], ◌∷◌, ◌++◌, None, Bool, true, false, reverse}
use Rattle.std.specs.Prelude.{◌≢◌, Option}
use Rattle.console_core.specs.Types.{Modifier, Lock, Holding, Cell, Char, Act, Event, Press, Reset}
use Rattle.keymap_core.specs.declared.action.Action.TheVariants as act
use Rattle.keymap_core.specs.declared.action.Holding.TheVariants as holding
use Rattle.keymap_core.specs.Maps.{MapValue}
use Rattle.keymap_core.specs.Bearers.{IsCellOf, Bears, IsAlone, BearsThroughout}
use Rattle.keymap_core.specs.Numbers.{key_count}
use Rattle.console_core.specs.Positions.{count_where, is_odd}
use Rattle.console_core.specs.Reading.{turns_at}
use Rattle.console_core.specs.History.{Maps, in_force, is_on_after, is_locked_after, accent_pending_after, answers_to}
use Rattle.console_core.specs.History.{pressed, HasKeys, HasNoLoads, IsQuiet}

-- Safe: a key with a modifier or a lock among its cells has no character among them.
abbrev pub IsSafe : MapValue → Type 0
IsSafe m = (k : ℕ) → k < key_count → (a : Holding) → Bears m k a → (c : ℕ) → IsCellOf m k (Char c) → ⊥

-- the cell is an action other than nop
abbrev pub IsActing : Cell → Type 0
IsActing (Char c) = ⊥
IsActing (Act a) = a ≢ act.Nop

-- Steady: exactly one key bears the lock, and all its cells are actions other than nop.
abbrev pub IsSteady : MapValue → Lock → Type 0
IsSteady m l =
    (k : ℕ) × (k < key_count) × Bears m k (holding.Lock l) × IsAlone m k (holding.Lock l)
    × ((x : Cell) → IsCellOf m k x → IsActing x)

-- A modifier is on only while a key that bears it is pressed, where `is_on` are the modifiers after h.
abbrev pub IsOnOnlyWhilePressed : MapValue → List Event → (Modifier → Bool) → Type 0
IsOnOnlyWhilePressed m h is_on =
    (i : Modifier) → is_on i ≡ true → (k : ℕ) × (k < key_count) × Bears m k (holding.Mod i) × (pressed k h ≡ true)

-- A modifier that one key alone bears throughout is on exactly while that key is pressed.
abbrev pub IsOnExactlyWhilePressed : MapValue → List Event → (Modifier → Bool) → Type 0
IsOnExactlyWhilePressed m h is_on = (i : Modifier) (k : ℕ) → BearsThroughout m k (holding.Mod i) → is_on i ≡ pressed k h

-- A repeat after h doesn't turn a steady lock, where `is_locked` are the locks after h.
abbrev pub RepeatsTurnNoSteadyLock : Maps → List Event → (Lock → Bool) → Type 0
RepeatsTurnNoSteadyLock ms h is_locked =
    (l : Lock) → IsSteady (in_force ms h) l → (k : ℕ) → k < key_count → pressed k h ≡ true
    → (turns_at ms l (Press k) h ≡ false) × (is_locked_after ms l (Press k ∷ h) ≡ is_locked l)

-- Once no key is pressed, no modifier is on.
abbrev pub IsOffOnceQuiet : List Event → (Modifier → Bool) → Type 0
IsOffOnceQuiet h is_on = IsQuiet h → (i : Modifier) → is_on i ≡ false

-- Two lists of events after which a console goes on in the same way: the same answers to whatever comes, and the same
-- modifiers, locks and pending accent after it.
abbrev pub GoesOnAs : Maps → List Event → List Event → Type 0
GoesOnAs ms h h' =
    (later : List Event) → HasKeys later
    → (answers_to ms h later ≡ answers_to ms h' later)
    × ((i : Modifier) → is_on_after ms i (reverse later ++ h) ≡ is_on_after ms i (reverse later ++ h'))
    × ((l : Lock) → is_locked_after ms l (reverse later ++ h) ≡ is_locked_after ms l (reverse later ++ h'))
    × (accent_pending_after ms (reverse later ++ h) ≡ accent_pending_after ms (reverse later ++ h'))

-- The headline after the events h, where `is_on`, `is_locked` and `pending` tell what is on, locked and pending then.
-- The clauses that want a safe keymap in force hold where `safe` does: that it is, or what tells that. The others hold
-- of every keymap.
--
-- A modifier is on only while a key that bears it is pressed, and exactly then if one key alone bears it throughout. A
-- repeat never turns a steady lock. Once no key is pressed, no modifier is on and, with no accent pending, the console
-- goes on as after a reset.
pub record Headline (safe : Type 0) (ms : Maps) (h : List Event) (is_on : Modifier → Bool) (is_locked : Lock → Bool)
    (pending : Option ℕ) : Type 0 where
  pub on_only_while_pressed : safe → IsOnOnlyWhilePressed (in_force ms h) h is_on
  pub on_exactly_while_pressed : IsOnExactlyWhilePressed (in_force ms h) h is_on
  pub repeats_turn_no_steady_lock : RepeatsTurnNoSteadyLock ms h is_locked
  pub off_once_quiet : safe → IsOffOnceQuiet h is_on
  pub as_after_reset_once_quiet : safe → IsQuiet h → pending ≡ None → GoesOnAs ms h (Reset ∷ h)

-- what is on, locked and pending after the events meets it
abbrev pub HeadlineAfter : Type 0 → Maps → List Event → Type 0
HeadlineAfter safe ms h =
    Headline safe ms h (λ i. is_on_after ms i h) (λ l. is_locked_after ms l h) (accent_pending_after ms h)

-- So it does after every list of events, whichever keymap is in force.
abbrev pub HeadlineHolds : Type 0
HeadlineHolds = (ms : Maps) (h : List Event) → HasKeys h → HeadlineAfter (IsSafe (in_force ms h)) ms h

-- the events, in the order of their delivery, are all repeats after h
abbrev pub AreRepeats : List Event → List Event → Type 0
AreRepeats h [] = Unit {0}
AreRepeats h (Press k ∷ later) = (pressed k h ≡ true) × AreRepeats (Press k ∷ h) later
AreRepeats h (e ∷ later) = ⊥

-- The repeats that the events end in leave a steady lock as it was before them, where `is_locked` are the locks after h
-- and then the events.
abbrev pub LastRepeatsTurnNoSteadyLock : Maps → List Event → List Event → (Lock → Bool) → Type 0
LastRepeatsTurnNoSteadyLock ms h events is_locked =
    (earlier : List Event) (repeats : List Event) → events ≡ earlier ++ repeats
    → AreRepeats (reverse earlier ++ h) repeats
    → (l : Lock) → IsSteady (in_force ms (reverse earlier ++ h)) l
    → is_locked l ≡ is_locked_after ms l (reverse earlier ++ h)

-- a fresh press of the key
abbrev pub is_fresh_press : ℕ → Event → List Event → Bool
is_fresh_press k (Press j) h = (j == k) && not (pressed k h)
is_fresh_press k _ h = false

-- A lock that one key alone bears throughout, where there are loads in both maps, is on exactly after an odd number of
-- fresh presses of that key.
abbrev pub IsLockedByFreshPresses : Maps → List Event → (Lock → Bool) → Type 0
IsLockedByFreshPresses ms h is_locked =
    (l : Lock) (k : ℕ) → BearsThroughout ms.first k (holding.Lock l)
    → HasNoLoads h ⊎ BearsThroughout ms.second k (holding.Lock l)
    → is_locked l ≡ is_odd (count_where (is_fresh_press k) h)

abbrev pub LockedByFreshPresses : Type 0
LockedByFreshPresses = (ms : Maps) (h : List Event) → HasKeys h
    → IsLockedByFreshPresses ms h (λ l. is_locked_after ms l h)

-- What holds after events were delivered to a console, at the list of events where it then stands: `stood` are the
-- lists where it stood before.
abbrev pub Afterwards : (Maps → List Event → Type 0) → List Event → (Maps → List Event → Type 0) → Type 0
Afterwards stood events P =
    (ms : Maps) (h : List Event) → stood ms h → P ms (reverse events ++ h)

-- Who promises these. `replay` of src/replays.rt, of any console after a list of events, with Afterwards for the lists
-- where it stood before. `check` of keymap_check, of each keymap and every list that leaves it in force, once it knows
-- which keymaps are safe and which locks are steady (KeepsPromise in its specs/Promises.antt). `laws` of this crate, of
-- all lists, with no console. `sticking` of console_states decides whether a keymap can leave a modifier on at all, and
-- `sticking_between` whether two that loads exchange can (its specs/Sticking.antt).
