-- What the events of a visit do: they lead a console to where a press sees something. Which sights can be visited, and
-- what is told of the states that moves lead to.
use Rattle.std.specs.Prelude.{◌≡◌, ◌⊎◌, ℕ, ◌<◌, false, List, [], ◌∷◌, ◌++◌}
use Rattle.std.specs.List.{Contains}
use Rattle.keymap_core.specs.Maps.{MapValue}
use Rattle.keymap_core.specs.Numbers.{key_count}
use Rattle.console_scripts.specs.Types.{Lock, Scroll, Act, Event, Press, Move, Sight}
use Rattle.console_states.specs.declared.held.Held.{Held}
use Rattle.console_states.specs.declared.selection.Sight.TheVariants as sight
use Rattle.console_core.specs.History.{between, is_locked_after, IsNoLoad}
use Rattle.console_states.specs.Moves.{Under, alone, State, state_of, IsPath, state_after, IsPathFrom, state_from}
use Rattle.console_states.specs.Moves.{Takes, events_along, free_with}
use Rattle.keymap_core.specs.declared.action.Action.TheVariants as act
use Rattle.console_states.specs.Returning.{IsHome, NoTurnIsOneWay, IsAfter, but_scroll}
use Rattle.console_states.specs.Sights.{SeesBy, SeesNext, CanPend, IsReachable, selection_of}
use Rattle.console_states.specs.Sticking.{IsOfPressedKey, ReachesMoreThanFrom, state_limit}
use Rattle.console_scripts.specs.Typing.{ComesHome}

-- what an explorer tells: the keymap, and the states that moves lead to
pub record ExplorerValue : Type 0 where
  pub map : MapValue
  pub states : List Held

-- Behind h the events, newest first, have no load and no release of a key that isn't pressed.
abbrev pub AreTaken : List Event → List Event → Type 0
AreTaken h [] = Unit {0}
AreTaken h (e ∷ later) = IsNoLoad e × IsOfPressedKey e (later ++ h) × AreTaken h later

-- The events, newest first, end with a press that sees the sight behind h.
abbrev pub EndsSeeing : MapValue → List Event → List Event → Sight → Type 0
EndsSeeing m h later x =
    (before : List Event) × (k : ℕ) × (later ≡ Press k ∷ before) × SeesNext m (before ++ h) k x

-- A visit: behind h the events, newest first, are taken, and end with a press that sees the sight, if it can be seen.
abbrev pub IsVisit : MapValue → List Event → Sight → List Event → Type 0
IsVisit m h x later = AreTaken h later × (IsReachable m x → EndsSeeing m h later x)

-- Where a press of the key in the state leads once all keys are let go, from there moves lead home.
abbrev pub LeadsBack : Under → State → ℕ → Type 0
LeadsBack u s k = (t : State) × IsAfter u s k t × ComesHome u t

-- A sight can be visited: moves lead from the start to a state where a press of some key sees it, a pair's accent can
-- be pending there, and that press leads back.
abbrev pub CanVisit : MapValue → Sight → Type 0
CanVisit m x =
    (path : List Move) × IsPath (alone m) path × CanPend m path x
    × ((k : ℕ) × (k < key_count) × SeesBy m (selection_of (state_after (alone m) path)) k x
    × LeadsBack (alone m) (state_after (alone m) path) k)

-- What can be visited can be seen, and where no turn of a lock is one-way, all that can be seen can be visited.
abbrev pub SeenCanBeVisited : Type 0
SeenCanBeVisited =
    (m : MapValue) (x : Sight)
    → (CanVisit m x → IsReachable m x) × (NoTurnIsOneWay m → IsReachable m x → CanVisit m x)

-- ---- the states that moves lead to

-- a path leads to the state
abbrev pub CanReach : MapValue → State → Type 0
CanReach m s = (path : List Move) × IsPath (alone m) path × (state_after (alone m) path ≡ s)

-- The states are those that moves lead to: a path leads to each of them, and each path to one of them.
pub record AreStatesOf (m : MapValue) (states : List Held) : Type 0 where
  pub reached : (x : Held) → Contains states x → CanReach m (state_of x)
  pub all : (path : List Move) → IsPath (alone m) path
      → (x : Held) × Contains states x × (state_of x ≡ state_after (alone m) path)

-- where nothing is held and those locks are on that are on after the list, but for the scroll lock, which picks no cell
abbrev pub resting_after : MapValue → List Event → State
resting_after m h = free_with (but_scroll (λ l. is_locked_after (between m m) l h))

-- Where a console rests behind the list is near home: moves lead there from the start, and from there home.
abbrev pub IsNearHome : MapValue → List Event → Type 0
IsNearHome m h = CanReach m (resting_after m h) × ComesHome (alone m) (resting_after m h)

-- the events, newest first, are those of moves from the one state to the other
abbrev pub LeadsBy : MapValue → State → State → List Event → Type 0
LeadsBy m s t h =
    (path : List Move) × IsPathFrom (alone m) s path × (state_from (alone m) s path ≡ t) × (h ≡ events_along path)

-- The events are those of moves home. There are none where no path leads to the state, or no moves lead home from it.
abbrev pub IsWayHome : MapValue → State → List Event → Type 0
IsWayHome m s h =
    ((t : State) × IsHome t × LeadsBy m s t h)
    ⊎ ((CanReach m s → ComesHome (alone m) s → ⊥) × (h ≡ []))

abbrev pub IsPair : Sight → Type 0
IsPair (sight.Pair accent c) = Unit {0}
IsPair _ = ⊥

-- moves lead from the state to where a press of some key sees it, where a pair's accent is pending
abbrev pub SeesFrom : MapValue → State → Sight → Type 0
SeesFrom m s x =
    (path : List Move) × IsPathFrom (alone m) s path
    × ((k : ℕ) × (k < key_count) × SeesBy m (selection_of (state_from (alone m) s path)) k x)

-- No moves lead from where the list ends to a press that sees it, or more states can be reached than are gone over.
abbrev pub CannotSee : MapValue → List Event → Sight → Type 0
CannotSee m h x =
    SeesFrom m (resting_after m h) x → (p : ℕ) × ReachesMoreThanFrom (alone m) (resting_after m h) state_limit p

-- Behind h the events, newest first, are taken and end with a press that sees one of the sights, unless that is a pair.
abbrev pub IsOnward : MapValue → List Event → List Sight → List Event → Type 0
IsOnward m h sights later =
    (x : Sight) × Contains sights x × ((IsPair x → ⊥) → AreTaken h later × EndsSeeing m h later x)

-- ---- the scroll lock

-- presses can turn the lock: moves lead from the state to where a key that holds nothing looks it up
abbrev pub CanTurn : MapValue → State → Lock → Type 0
CanTurn m s l =
    (path : List Move) × (k : ℕ) × IsPathFrom (alone m) s path
    × Takes (alone m) (state_from (alone m) s path) k (Act (act.Lock l))

-- behind h presses can't turn the scroll lock, or more states can be reached than are gone over
abbrev pub CannotScroll : MapValue → List Event → Type 0
CannotScroll m h =
    CanTurn m (resting_after m h) Scroll
    → (p : ℕ) × ReachesMoreThanFrom (alone m) (resting_after m h) state_limit p

-- the events, newest first, are taken behind h, and leave the scroll lock off
abbrev pub TurnsScrollOff : MapValue → List Event → List Event → Type 0
TurnsScrollOff m h later = AreTaken h later × (is_locked_after (between m m) Scroll (later ++ h) ≡ false)
