-- What a list of resolved events leaves. A resolved event is an event together with what its key looked up, or with the
-- map that it put in force. Each notion is a statement on the positions of one list, which has the newest event first.
use Prim.Native.Nat.{suc}
use Rattle.std.specs.Prelude.{ℕ, ◌==◌, Bool, false, true, ◌&&◌, not, List, [], ◌∷◌, Option, None, Some, if◌then◌else◌}
use Rattle.console_core.specs.Types.{Modifier, Meta, Lock, Action, Holding, Cell, Char, Act, Event, Press, Release}
use Rattle.console_core.specs.Types.{Reset, Load, Answer}
use Rattle.keymap_core.specs.declared.action.Action.TheVariants as act
use Rattle.keymap_core.specs.declared.action.Holding.TheVariants as holding
use Rattle.keymap_core.specs.Actions.{same_action, holding_action}
use Rattle.keymap_core.specs.Maps.{MapValue}
use Rattle.keymap_core.specs.Borne.{is_borne}
use Rattle.console_core.specs.declared.event.Answer.TheVariants as answer
use Rattle.console_core.specs.Positions.{holds_since, first_since, count_since, is_odd}
use Rattle.console_core.specs.Columns.{look_with}
use Rattle.console_core.specs.Answers.{usable, answer_char, answer_action, answer_release}

pub data ResolvedEvent : Type 0 where
  -- a press of a key whose look was a character
  PressedCharacter : ℕ → ℕ → ResolvedEvent
  -- a press of a key whose look was an action
  PressedAction : ℕ → Action → ResolvedEvent
  -- a release of a key
  ReleasedKey : ℕ → ResolvedEvent
  -- a reset
  WasReset : ResolvedEvent
  -- a load, by the map that it put in force
  WasLoaded : MapValue → ResolvedEvent

-- Remembered: of the presses of k after the last reset, load, release of k or press of k whose look was a character,
-- the first whose look isn't nop: that look.
abbrev pub forgets : ℕ → ResolvedEvent → Bool
forgets k (PressedCharacter j c) = j == k
forgets k (PressedAction j a) = false
forgets k (ReleasedKey j) = j == k
forgets k WasReset = true
forgets k (WasLoaded m) = true

abbrev pub unless_nop : Action → Option Action
unless_nop a = if same_action a act.Nop then None else Some a

abbrev pub offers : ℕ → ResolvedEvent → Option Action
offers k (PressedAction j a) = if j == k then unless_nop a else None
offers k _ = None

unfoldable pub remembered : ℕ → List ResolvedEvent → Option Action
remembered k = first_since (forgets k) (offers k)

-- Taken, by a key whose look is the action a: a, if nothing or a is remembered, else nop.
abbrev pub taken_over : Option Action → Action → Action
taken_over None a = a
taken_over (Some held) a = if same_action held a then a else act.Nop

abbrev pub taken : ℕ → Action → List ResolvedEvent → Action
taken k a before = taken_over (remembered k before) a

-- Raises: a press of a key that takes the holding action.
abbrev pub raises : Holding → ResolvedEvent → List ResolvedEvent → Bool
raises a (PressedAction k b) before = same_action (taken k b before) (holding_action a)
raises a _ before = false

-- Lowers: a reset, a load, or a release of a key that remembers the holding action.
abbrev pub is_this_action : Option Action → Action → Bool
is_this_action None a = false
is_this_action (Some b) a = same_action b a

abbrev pub lowers : Holding → ResolvedEvent → List ResolvedEvent → Bool
lowers a (ReleasedKey k) before = is_this_action (remembered k before) (holding_action a)
lowers a WasReset before = true
lowers a (WasLoaded m) before = true
lowers a _ before = false

-- On, of a modifier, and Down, of a lock: some event raises it, and no later event lowers it.
unfoldable pub held : Holding → List ResolvedEvent → Bool
held a = holds_since (raises a) (lowers a)

abbrev pub on : Modifier → List ResolvedEvent → Bool
on i = held (holding.Mod i)

abbrev pub down : Lock → List ResolvedEvent → Bool
down l = held (holding.Lock l)

-- Turns: it raises the lock, which isn't down.
abbrev pub turns : Lock → ResolvedEvent → List ResolvedEvent → Bool
turns l x before = raises (holding.Lock l) x before && not (down l before)

-- Locked: the number of events is odd that turn the lock after the last load of a map in which nobody bears it.
abbrev pub unlocks : Lock → ResolvedEvent → List ResolvedEvent → Bool
unlocks l (WasLoaded m) before = not (is_borne m (holding.Lock l))
unlocks l _ before = false

unfoldable pub locked : Lock → List ResolvedEvent → Bool
locked l h = is_odd (count_since (unlocks l) (turns l) h)

-- Look: the cell of the key in the map, by what is on and locked.
unfoldable pub look : MapValue → List ResolvedEvent → ℕ → Cell
look m before k = look_with m (λ i. on i before) (λ l. locked l before) k

-- An event resolved under the map in force, where a load puts the other one in force.
abbrev pub resolve_press : ℕ → Cell → ResolvedEvent
resolve_press k (Char c) = PressedCharacter k c
resolve_press k (Act a) = PressedAction k a

abbrev pub resolve : MapValue → MapValue → List ResolvedEvent → Event → ResolvedEvent
resolve m other before (Press k) = resolve_press k (look m before k)
resolve m other before (Release k) = ReleasedKey k
resolve m other before Reset = WasReset
resolve m other before Load = WasLoaded other

-- Pending: releases, and presses that take nop, a modifier or a lock, keep what is pending. Of the other events, look
-- at those at the end that are presses of one usable dead key: if they are odd in number, that dead key is pending.
abbrev pub keeps_taken : Action → Bool
keeps_taken act.Nop = true
keeps_taken (act.Mod i) = true
keeps_taken (act.Lock l) = true
keeps_taken _ = false

abbrev pub keeps : ResolvedEvent → List ResolvedEvent → Bool
keeps (PressedCharacter k c) before = false
keeps (PressedAction k a) before = keeps_taken (taken k a before)
keeps (ReleasedKey k) before = true
keeps WasReset before = false
keeps (WasLoaded m) before = false

abbrev pub usable_dead_key : MapValue → Action → Option ℕ
usable_dead_key m (act.DeadKey i) = if usable m i then Some i else None
usable_dead_key m _ = None

-- the usable dead key that is taken
abbrev pub dead_key : MapValue → ResolvedEvent → List ResolvedEvent → Option ℕ
dead_key m (PressedAction k a) before = usable_dead_key m (taken k a before)
dead_key m _ before = None

-- the dead keys that are taken, one entry for each event that doesn't keep
unfoldable pub dead_keys_taken : MapValue → List ResolvedEvent → List (Option ℕ)
dead_keys_taken m [] = []
dead_keys_taken m (x ∷ before) =
    if keeps x before then dead_keys_taken m before else dead_key m x before ∷ dead_keys_taken m before

-- how many of the newest entries are this dead key
abbrev pub run_length : ℕ → List (Option ℕ) → ℕ
run_length i [] = 0
run_length i (None ∷ rest) = 0
run_length i (Some j ∷ rest) = if j == i then suc (run_length i rest) else 0

unfoldable pub pending_by_dead_keys : List (Option ℕ) → Option ℕ
pending_by_dead_keys [] = None
pending_by_dead_keys (None ∷ rest) = None
pending_by_dead_keys (Some i ∷ rest) = if is_odd (run_length i (Some i ∷ rest)) then Some i else None

abbrev pub pending : MapValue → List ResolvedEvent → Option ℕ
pending m h = pending_by_dead_keys (dead_keys_taken m h)

-- Answer, to a resolved event under the map in force.
abbrev pub answer_resolved : MapValue → ResolvedEvent → List ResolvedEvent → Answer
answer_resolved m (PressedCharacter k c) before = answer_char m (pending m before) (on Meta before) c
answer_resolved m (PressedAction k a) before = answer_action m (pending m before) (on Meta before) (taken k a before)
answer_resolved m (ReleasedKey k) before = answer_release (remembered k before)
answer_resolved m WasReset before = answer.None
answer_resolved m (WasLoaded n) before = answer.None
