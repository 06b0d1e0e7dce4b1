-- What the search for sticking modifiers goes over: the states, and the moves between them. It mirrors
-- src/held/moves.rt, and stands outside of Inner since the answer `Undecided` is said by states and paths.
use Rattle.std.specs.Prelude.{◌≡◌, ◌≢◌, ℕ, ◌+◌, ◌<◌, Bool, false, true, ◌||◌, ◌&&◌, not, List, [], ◌∷◌, ◌++◌, Option}
use Rattle.std.specs.Prelude.{None, Some}
use Rattle.std.specs.Prelude.{if◌then◌else◌, slice_index_or}
use Rattle.std.specs.Option.{is_some}
use Prim.Native.Nat.{suc, zero}
use Rattle.console_states.specs.Types.{Modifier, Lock, Cell, Char, Act, Event, Press, Release, Load, Move, Hold, Turn}
use Rattle.console_states.specs.Types.{LetGo, Exchange, Tap, Action, Caps, Num, Scroll, Selection, LeftShift}
use Rattle.console_states.specs.Types.{RightShift}
use Rattle.console_states.specs.Types.{LeftControl, RightControl, LeftAlt, RightAlt}
use Rattle.console_states.specs.Allowed.{Allows, all_allowed}
use Rattle.keymap_core.specs.declared.action.Action.TheVariants as act
use Rattle.keymap_core.specs.declared.action.Holding.TheVariants as holding
use Rattle.keymap_core.specs.Actions.{same_modifier, same_lock, modifiers, modifier_index, lock_index}
use Rattle.keymap_core.specs.Borne.{is_borne}
use Rattle.keymap_core.specs.Maps.{MapValue}
use Rattle.keymap_core.specs.Numbers.{key_count}
use Rattle.console_states.specs.declared.held.Held.{Held}
use Rattle.console_core.specs.Answers.{usable}
use Rattle.console_core.specs.Columns.{look_with, is_upper}
use Rattle.console_core.specs.History.{Maps, between}

-- What a search goes under: two maps, whether loads exchange them, which presses are allowed, and the accent of the
-- first map that it minds, if it minds one: whether that is pending is a part of its states.
pub record Under : Type 0 where
  pub maps : Maps
  pub has_loads : Bool
  pub allows : Allows
  pub minded : Option ℕ

-- a map alone, without loads, by presses that are allowed
abbrev pub alone_by : Allows → MapValue → Under
alone_by allows m = record { maps = between m m; has_loads = false; allows = allows; minded = None }

-- a map alone, without loads, by all presses
abbrev pub alone : MapValue → Under
alone m = alone_by all_allowed m

-- two maps that loads exchange, by all presses
abbrev pub with_loads : Maps → Under
with_loads ms = record { maps = ms; has_loads = true; allows = all_allowed; minded = None }

-- the same, but that the accent is minded
abbrev pub minding : Under → ℕ → Under
minding u accent = record u { minded = Some accent }

-- A state: for each modifier the key that holds it on, if one does, which locks are on, whether the second map is in
-- force, and whether the accent is pending that is minded.
pub record State : Type 0 where
  pub holder : Modifier → Option ℕ
  pub is_locked : Lock → Bool
  pub is_second : Bool
  pub is_pending : Bool

-- the byte that tells who holds a modifier: 0 for no key, and else one more than the key
abbrev pub number_of : Option ℕ → ℕ
number_of None = 0
number_of (Some k) = suc k

abbrev pub key_of : ℕ → Option ℕ
key_of zero = None
key_of (suc k) = Some k

-- the state that the tables are
abbrev pub state_of : Held → State
state_of x = record {
  holder = λ i. key_of (slice_index_or x.holders (modifier_index i) 0);
  is_locked = λ l. slice_index_or x.locks (lock_index l) false;
  is_second = x.is_second;
  is_pending = x.is_pending;
}

-- nothing is held, no lock is on, the first map is in force, and the accent isn't pending
abbrev pub start : State
start = record { holder = λ i. None; is_locked = λ l. false; is_second = false; is_pending = false }

-- the map in force, and the one that a load puts in force
abbrev pub map_of : Under → Bool → MapValue
map_of u is_second = if is_second then u.maps.second else u.maps.first

abbrev pub map_in : Under → State → MapValue
map_in u s = map_of u s.is_second

abbrev pub next_map : Under → State → MapValue
next_map u s = map_of u (not s.is_second)

abbrev pub is_held : State → Modifier → Bool
is_held s i = is_some (s.holder i)

-- what a press of the key looks up
abbrev pub look_in : Under → State → ℕ → Cell
look_in u s k = look_with (map_in u s) (λ i. is_held s i) (λ l. s.is_locked l) k

-- the key holds the modifier
abbrev pub Holds : State → ℕ → Modifier → Type 0
Holds s k i = s.holder i ≡ Some k

-- the key holds nothing
abbrev pub IsIdle : State → ℕ → Type 0
IsIdle s k = (i : Modifier) → Holds s k i → ⊥

abbrev pub with_holder : State → Modifier → Option ℕ → State
with_holder s i holder = record s { holder = λ j. if same_modifier i j then holder else s.holder j }

abbrev pub with_lock_turned : State → Lock → State
with_lock_turned s l = record s { is_locked = λ j. if same_lock l j then not (s.is_locked j) else s.is_locked j }

-- the accent is pending
abbrev pub with_accent : State → State
with_accent s = record s { is_pending = true }

-- the map is in force, each lock that it doesn't bear is off, and the accent isn't pending
abbrev pub exchanged : MapValue → State → State
exchanged m s = record s {
  is_locked = λ l. is_borne m (holding.Lock l) && s.is_locked l;
  is_second = not s.is_second;
  is_pending = false;
}

-- nothing is held
abbrev pub IsFree : State → Type 0
IsFree s = (i : Modifier) → s.holder i ≡ None

-- what picks the cell, by which modifiers and locks are on
abbrev pub selection_with : (Modifier → Bool) → (Lock → Bool) → Selection
selection_with is_on is_locked = record {
  upper = is_upper is_on is_locked;
  shift = is_on LeftShift || is_on RightShift;
  control = is_on LeftControl || is_on RightControl;
  alt = is_on LeftAlt || is_on RightAlt;
  caps = is_locked Caps;
  num = is_locked Num;
}

abbrev pub selection_of : State → Selection
selection_of s = selection_with (λ i. is_held s i) (λ l. s.is_locked l)

-- a press of the key looks up the cell, and is allowed
abbrev pub IsMade : Under → State → ℕ → Cell → Type 0
IsMade u s k x = (look_in u s k ≡ x) × (u.allows (selection_of s) k x ≡ true)

-- the key holds nothing, and a press of it looks up the cell and is allowed
abbrev pub Takes : Under → State → ℕ → Cell → Type 0
Takes u s k x = (k < key_count) × IsIdle s k × IsMade u s k x

-- The moves from a state. A key that holds nothing becomes the holder of the modifier that it looks up, if that has
-- none, or turns the lock that it looks up, or is tapped, where it looks up the dead key of the accent that is minded:
-- that is usable, and isn't pending yet. A holder lets go. Where nothing is held, the maps are exchanged. The scroll
-- lock picks no cell, and no move turns it: so it is off wherever moves lead from where it is.
abbrev pub IsMove : Under → State → Move → Type 0
IsMove u s (Hold k i) = Takes u s k (Act (act.Mod i)) × (s.holder i ≡ None)
IsMove u s (Turn k l) = Takes u s k (Act (act.Lock l)) × (l ≢ Scroll)
IsMove u s (Tap k) =
    (accent : ℕ) × (u.minded ≡ Some accent) × (usable u.maps.first accent ≡ true)
    × Takes u s k (Act (act.DeadKey accent)) × (s.is_pending ≡ false)
IsMove u s (LetGo k i) = Holds s k i
IsMove u s Exchange = IsFree s × (u.has_loads ≡ true)

abbrev pub moved : Under → State → Move → State
moved u s (Hold k i) = with_holder s i (Some k)
moved u s (Turn k l) = with_lock_turned s l
moved u s (Tap k) = with_accent s
moved u s (LetGo k i) = with_holder s i None
moved u s Exchange = exchanged (next_map u s) s

-- the key holds the modifier and looks up a character, so a press of it, which is allowed, forgets that it holds
abbrev pub HolderForgets : Under → State → Modifier → ℕ → Type 0
HolderForgets u s i k = Holds s k i × ((c : ℕ) × IsMade u s k (Char c))

abbrev pub IsForgetful : Under → State → Type 0
IsForgetful u s = (i : Modifier) × (k : ℕ) × HolderForgets u s i k

-- A press of the key and its release keep the state: the key holds nothing, and looks up no modifier that is held and
-- no lock but the scroll lock.
abbrev pub IsSteady : Under → State → ℕ → Type 0
IsSteady u s k =
    (k < key_count) × IsIdle s k × ((i : Modifier) → look_in u s k ≡ Act (act.Mod i) → s.holder i ≡ None)
    × ((l : Lock) → look_in u s k ≡ Act (act.Lock l) → l ≡ Scroll)

-- the key holds a modifier, and looks up an action: a press of it keeps the state
abbrev pub IsRepeated : Under → State → ℕ → Type 0
IsRepeated u s k = (IsIdle s k → ⊥) × ((b : Action) × (look_in u s k ≡ Act b))

-- Paths from a state: moves with the newest first, each possible in the state where the moves before it lead.
abbrev pub state_from : Under → State → List Move → State
state_from u s [] = s
state_from u s (move ∷ path) = moved u (state_from u s path) move

abbrev pub IsPathFrom : Under → State → List Move → Type 0
IsPathFrom u s [] = Unit {0}
IsPathFrom u s (move ∷ path) = IsMove u (state_from u s path) move × IsPathFrom u s path

-- Paths from the start.
abbrev pub state_after : Under → List Move → State
state_after u path = state_from u start path

abbrev pub IsPath : Under → List Move → Type 0
IsPath u path = IsPathFrom u start path

-- nothing is held, and these locks are on, under the first map
abbrev pub free_with : (Lock → Bool) → State
free_with is_locked = record start { is_locked = is_locked }

-- how many presses a move takes
abbrev pub presses_of : Move → ℕ
presses_of (Hold k i) = 1
presses_of (Turn k l) = 1
presses_of (Tap k) = 1
presses_of (LetGo k i) = 0
presses_of Exchange = 0

-- the move begins with a press of the key
abbrev pub IsPressOf : ℕ → Move → Type 0
IsPressOf k (Hold j i) = j ≡ k
IsPressOf k (Turn j l) = j ≡ k
IsPressOf k (Tap j) = j ≡ k
IsPressOf k (LetGo j i) = ⊥
IsPressOf k Exchange = ⊥

abbrev pub presses_along : List Move → ℕ
presses_along [] = 0
presses_along (move ∷ path) = presses_along path + presses_of move

-- the events of the moves, with the newest first
abbrev pub events_of_move : Move → List Event
events_of_move (Hold k i) = Press k ∷ []
events_of_move (Turn k l) = Release k ∷ Press k ∷ []
events_of_move (Tap k) = Release k ∷ Press k ∷ []
events_of_move (LetGo k i) = Release k ∷ []
events_of_move Exchange = Load ∷ []

abbrev pub events_along : List Move → List Event
events_along [] = []
events_along (move ∷ path) = events_of_move move ++ events_along path

-- the releases of the holders of these modifiers
abbrev pub release_of : Option ℕ → List Event
release_of None = []
release_of (Some k) = Release k ∷ []

abbrev pub releases : State → List Modifier → List Event
releases s [] = []
releases s (i ∷ more) = release_of (s.holder i) ++ releases s more

-- the path, a repeat of the key, and the release of each key that holds a modifier, with the newest first
abbrev pub script_of_path : Under → List Move → ℕ → List Event
script_of_path u path k = releases (state_after u path) modifiers ++ Press k ∷ events_along path
