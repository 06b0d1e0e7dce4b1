-- The ways to type a character, and which of them is taken: of the first class of ways that has one, one of those with
-- the fewest presses.
use Rattle.std.specs.Prelude.{◌≡◌, ◌==◌, ℕ, ◌+◌, ◌<◌, ◌≤◌, Bool, true, false, ◌||◌, ◌&&◌, not, ◌⊎◌, List, [], ◌∷◌, ◌++◌}
use Rattle.std.specs.Prelude.{All, map, Option, None, Some, reverse, take, drop, if◌then◌else◌}
use Rattle.std.specs.List.{AllPairs, Contains}
use Rattle.keymap_core.specs.Maps.{MapValue}
use Rattle.keymap_core.specs.declared.action.Action.TheVariants as act
use Rattle.keyboard.specs.declared.board.Board.{Board}
use Rattle.keyboard.specs.Boards.{is_on, is_on_pad}
use Rattle.console_core.specs.Answers.{usable}
use Rattle.console_states.specs.Allowed.{Allows}
use Rattle.console_states.specs.Moves.{Under, alone, alone_by, start, State, IsPathFrom, state_from, presses_along}
use Rattle.console_states.specs.Moves.{events_along}
use Rattle.console_states.specs.Moves.{selection_of, look_in}
use Rattle.console_states.specs.Sticking.{ReachesMoreThan, state_limit}
use Rattle.console_scripts.specs.Types.{Cell, Act, Event, Press, Release, Move}
use Rattle.console_scripts.specs.declared.classes.Class.{Class}
use Rattle.console_scripts.specs.declared.courses.Target.{Target}
use Rattle.console_scripts.specs.declared.explored.Symbol.{Symbol}
use Rattle.console_scripts.specs.declared.explored.Symbol.TheVariants as symbol
use Rattle.console_scripts.specs.declared.typing.Keyed.{Keyed}
use Rattle.console_scripts.specs.declared.typing.Typing.{Typing}
use Rattle.console_scripts.specs.declared.by_key.WayBy.{WayBy}
use Rattle.console_scripts.specs.Typing.{AreTyped, ComesHome, IsTapOf, composed_of}
use Rattle.console_scripts.specs.Visiting.{resting_after}

-- ---- classes

-- what a class that doesn't keep to something counts for it
abbrev pub weight : Bool → ℕ → ℕ
weight keeps n = if keeps then 0 else n

-- How many classes come before the class. Of two classes the one comes before that keeps to what tells them apart
-- first, so what stands before counts more than all behind it.
abbrev pub rank : Class → ℕ
rank w =
    weight w.keeps_to_board 16 + weight w.keeps_locks 8 + weight w.is_one_tap 4 + weight w.avoids_pad 2
    + weight w.avoids_86 1

-- ways of the class press the key: one of the board, not of the pad, not 86, where the class keeps to that
abbrev pub presses_key : Board → Class → ℕ → Bool
presses_key b w k =
    (not w.keeps_to_board || is_on b k)
    && ((not w.avoids_pad || not (is_on_pad k)) && (not w.avoids_86 || not (k == 86)))

abbrev pub is_lock : Cell → Bool
is_lock (Act (act.Lock l)) = true
is_lock _ = false

-- the presses that ways of the class are made of: of such keys, and of none that looks up a lock where none is turned
abbrev pub allows_in : Board → Class → Allows
allows_in b w y k x = presses_key b w k && (not w.keeps_locks || not (is_lock x))

-- ---- ways

-- an accent, and a tap of its dead key: the moves to it, with the newest first, and the key
pub record DeadTap : Type 0 where
  pub accent : ℕ
  pub moves : List Move
  pub key : ℕ

-- A way: the tap of a dead key, if there is one, moves on, with the newest first, and the key whose press types the
-- character.
pub record Way : Type 0 where
  pub dead : Option DeadTap
  pub moves : List Move
  pub key : ℕ

-- a tap of a key that the allowed presses have
abbrev pub IsAllowedTap : Under → State → Bool → Symbol → ℕ → Type 0
IsAllowedTap u s plain x k = IsTapOf u s plain x k × (u.allows (selection_of s) k (look_in u s k) ≡ true)

-- where a tap of a dead key leads: to where the moves before it do
abbrev pub state_behind : Under → State → Option DeadTap → State
state_behind u s None = s
state_behind u s (Some d) = state_from u s d.moves

-- where the key of the way is pressed
abbrev pub state_at_end : Under → State → Way → State
state_at_end u s x = state_from u (state_behind u s x.dead) x.moves

-- the dead key can be tapped: its accent is usable, and moves lead to where the key looks it up
abbrev pub IsDeadTap : Under → State → DeadTap → Type 0
IsDeadTap u s d =
    (usable u.maps.first d.accent ≡ true) × IsPathFrom u s d.moves
    × IsAllowedTap u (state_from u s d.moves) false (symbol.DeadKey d.accent) d.key

-- what the press at the end of a way types: its character, or what the accent of the dead key makes of it
abbrev pub Makes : MapValue → Option DeadTap → Symbol → ℕ → Type 0
Makes m None x c = x ≡ symbol.Character c
Makes m (Some d) x c = composed_of m d.accent x ≡ Some c

abbrev pub IsBegun : Under → State → Option DeadTap → Type 0
IsBegun u s None = Unit {0}
IsBegun u s (Some d) = IsDeadTap u s d

-- what is looked for: the character, by a press of the key, if one is told
abbrev pub ending_with : Option ℕ → ℕ → Target
ending_with last c = record { character = c; last = last }

-- the key is the one that is told, if one is
abbrev pub IsLast : Option ℕ → ℕ → Type 0
IsLast None k = Unit {0}
IsLast (Some j) k = k ≡ j

-- A way from the state that types the character: it is made of allowed presses, the last one types the character and is
-- of the key that is told, if one is, and from behind it moves of any presses lead home.
pub record IsWayBy (allows : Allows) (m : MapValue) (s : State) (c : Target) (x : Way) : Type 0 where
  pub begun : IsBegun (alone_by allows m) s x.dead
  pub goes : IsPathFrom (alone_by allows m) (state_behind (alone_by allows m) s x.dead) x.moves
  pub tapped : Symbol
  pub makes : Makes m x.dead tapped c.character
  pub last : IsLast c.last x.key
  pub tap : IsAllowedTap (alone_by allows m) (state_at_end (alone_by allows m) s x) true tapped x.key
  pub home : ComesHome (alone m) (state_at_end (alone_by allows m) s x)

abbrev pub is_one_tap : Option DeadTap → Bool
is_one_tap None = true
is_one_tap (Some d) = false

-- a way of the class: of one tap, if it is to be one, and of its presses
abbrev pub IsWay : Board → Class → MapValue → State → Target → Way → Type 0
IsWay b w m s c x = (is_one_tap x.dead ≡ w.is_one_tap) × IsWayBy (allows_in b w) m s c x

abbrev pub presses_before : Option DeadTap → ℕ
presses_before None = 0
presses_before (Some d) = presses_along d.moves + 1

abbrev pub presses_of_way : Way → ℕ
presses_of_way x = presses_before x.dead + (presses_along x.moves + 1)

abbrev pub events_before : Option DeadTap → List Event
events_before None = []
events_before (Some d) = Release d.key ∷ Press d.key ∷ events_along d.moves

-- the events of the way up to the press that types, with the newest first
abbrev pub events_of_way : Way → List Event
events_of_way x = Press x.key ∷ events_along x.moves ++ events_before x.dead

-- The way is one of the class, which is the first that has one, and none of the class has fewer presses.
pub record IsTaken (b : Board) (class : Class) (m : MapValue) (s : State) (c : Target) (x : Way) : Type 0 where
  pub is : IsWay b class m s c x
  pub first : (v : Class) (y : Way) → rank v < rank class → IsWay b v m s c y → ⊥
  pub fewest : (y : Way) → IsWay b class m s c y → presses_of_way x ≤ presses_of_way y

-- no class has a way
abbrev pub HasNoWayFrom : Board → MapValue → State → Target → Type 0
HasNoWayFrom b m s c = (w : Class) (x : Way) → IsWay b w m s c x → ⊥

-- ---- the ways that events go

-- The events, newest first, go such a way of the class from the state, with so many presses before the last, and then
-- on. Where more states can be reached than are gone over this is not said.
abbrev pub TakesWayOf : Class → ℕ → Board → MapValue → State → Target → List Event → Type 0
TakesWayOf class n b m s c es =
    ((x : Way) × (later : List Event) × IsTaken b class m s c x × (presses_of_way x ≡ n + 1)
    × (es ≡ later ++ events_of_way x))
    ⊎ ((p : ℕ) × ReachesMoreThan (alone m) state_limit p)

-- of whatever class, and with whatever key
abbrev pub TakesWay : Board → MapValue → State → ℕ → List Event → Type 0
TakesWay b m s c es = (class : Class) × (n : ℕ) × TakesWayOf class n b m s (ending_with None c) es

-- Behind h they do so from where the console rests then.
abbrev pub GoesWay : Board → MapValue → List Event → ℕ → List Event → Type 0
GoesWay b m h c es = TakesWay b m (resting_after m h) c es

-- so do the events of each character, from so many events on
abbrev pub GoWaysFrom : Board → MapValue → List Event → ℕ → List Keyed → Type 0
GoWaysFrom b m es from [] = Unit {0}
GoWaysFrom b m es from (k ∷ ks) =
    GoesWay b m (reverse (take from es)) k.character (reverse (drop from (take k.end es)))
    × GoWaysFrom b m es k.end ks

-- ---- the ways by each key

-- The character is typed by itself, by a way of the class that is taken of those that are looked for, with so many
-- presses before the last.
abbrev pub IsTypedAlone : Class → ℕ → Board → MapValue → Target → Typing → Type 0
IsTypedAlone class n b m c x =
    AreTyped m (c.character ∷ []) x × TakesWayOf class n b m start c (reverse x.events.items)

-- it is typed so by the key that is told
abbrev pub IsTypedBy : Board → MapValue → ℕ → WayBy → Type 0
IsTypedBy b m c w = IsTypedAlone w.class w.before b m (ending_with (Some w.key) c) w.typing

abbrev pub keys_of : List WayBy → List ℕ
keys_of ways = map (λ (w : WayBy). w.key) ways

-- Each types the character by a way that is taken of those that end with a press of its key. They stand in the order of
-- these keys, and for each key with which a way from a new console ends.
pub record AreWaysByKey (b : Board) (m : MapValue) (c : ℕ) (ways : List WayBy) : Type 0 where
  pub each : All (IsTypedBy b m c) ways
  pub in_order : AllPairs (λ j k. j < k) (keys_of ways)
  pub complete : (k : ℕ) (class : Class) (x : Way) → IsWay b class m start (ending_with (Some k) c) x
      → Contains (keys_of ways) k
