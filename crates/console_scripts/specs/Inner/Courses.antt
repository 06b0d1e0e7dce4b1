-- The presses of a course, what ends its ways, and what was met by it. Mirrors src/classes.rt, src/making.rt and
-- src/courses.rt.
use Rattle.std.specs.Prelude.{◌≡◌, ◌==◌, ℕ, ◌<◌, Bool, true, ◌||◌, ◌&&◌, not, Option}
use Rattle.std.specs.Prelude.{None, Some, if◌then◌else◌, false, List, [], ◌∷◌, slice_get, slice_index_or, reverse}
use Rattle.std.specs.Prelude.{MatchOption}
use Rattle.std.specs.Option.{is_some}
use Rattle.keymap_core.specs.Actions.{IsAction}
use Rattle.keymap_core.specs.Bounds.{IsMap}
use Rattle.keymap_core.specs.Maps.{MapValue}
use Rattle.keymap_core.specs.Numbers.{key_count}
use Rattle.keyboard.specs.declared.board.Board.{Board}
use Rattle.console_core.specs.Answers.{usable}
use Rattle.console_states.specs.Allowed.{Allows, is_pressed}
use Rattle.console_states.specs.declared.allowed.KeyPresses.{KeyPresses}
use Rattle.console_states.specs.declared.allowed.KeyPresses.TheVariants.{Always, Never}
use Rattle.console_states.specs.declared.allowed.Presses.{Presses}
use Rattle.console_core.specs.History.{between}
use Rattle.console_states.specs.declared.look.KeyAt.{KeyAt}
use Rattle.console_states.specs.declared.search.End.{End}
use Rattle.console_states.specs.declared.search.End.TheVariants.{Complete}
use Rattle.console_states.specs.Looks.{IsFirst}
use Rattle.console_states.specs.Minding.{without_accent}
use Rattle.console_states.specs.Moves.{Under, State, alone, IsIdle, is_held, selection_of, events_along}
use Rattle.console_states.specs.Searching.{Entry, Entries, HasEnded, IsTrail, state_of}
use Rattle.console_states.specs.Sights.{look_selected}
use Rattle.console_states.specs.Sticking.{ReachesMoreThanFrom, state_limit}
use Rattle.console_scripts.specs.Types.{Act, Cell, Char, Meta, Move, Selection}
use Rattle.console_scripts.specs.Inner.Exploring.{IsOrigin}
use Rattle.console_scripts.specs.Inner.Routes.{HasRoute, Routes}
use Rattle.console_scripts.specs.declared.courses.Course.{Course}
use Rattle.console_scripts.specs.declared.courses.Ending.{Ending}
use Rattle.console_scripts.specs.declared.courses.Found.{Found}
use Rattle.console_scripts.specs.declared.courses.Reached.{Reached}
use Rattle.console_scripts.specs.declared.courses.Target.{Target}
use Rattle.console_scripts.specs.Typing.{cell_of, composed_of}
use Rattle.console_scripts.specs.Ways.{IsLast, allows_in, presses_key}
use Rattle.console_scripts.specs.declared.classes.Class.{Class}
use Rattle.console_scripts.specs.declared.classes.Spared.{Spared}
use Rattle.console_scripts.specs.declared.explored.Symbol.{Symbol}
use Rattle.console_scripts.specs.declared.explored.Symbol.TheVariants as symbol

-- ---- presses

abbrev pub is_spared : Spared → ℕ → Bool
is_spared sp k = (sp.left_alt && (k == 56)) || (sp.right_shift && (k == 54))

-- ways of the class press the key, and it isn't spared
abbrev pub takes_key : Board → Class → Spared → ℕ → Bool
takes_key b w sp k = presses_key b w k && not (is_spared sp k)

-- the presses of the class, but for those of spared keys
abbrev pub allows_but : Board → Class → Spared → Allows
allows_but b w sp y k x = allows_in b w y k x && not (is_spared sp k)

-- the codes of locks
abbrev pub has_lock_code : ℕ → Bool
has_lock_code c = (c == 4) || (c == 5) || (c == 6) || (c == 130)

abbrev pub presses_code_in : Class → ℕ → Bool
presses_code_in w c = not w.keeps_locks || not (has_lock_code c)

abbrev pub presses_always : Bool → KeyPresses
presses_always t = if t then Always else Never

-- an action is one of the table
abbrev pub HasAction : Cell → Type 0
HasAction (Char c) = Unit {0}
HasAction (Act a) = IsAction a

-- the tables have these presses, of each key and cell that a keymap may have
abbrev pub ArePresses : Board → Class → Spared → Presses → Type 0
ArePresses b w sp p =
    (y : Selection) (k : ℕ) (x : Cell) → k < key_count → HasAction x → is_pressed p y k x ≡ allows_but b w sp y k x

-- ---- what is tapped

-- a tap of the symbol types the character, while the accent is pending, if one is told
abbrev pub MakesBy : MapValue → Option ℕ → ℕ → Symbol → Type 0
MakesBy m None c x = x ≡ symbol.Character c
MakesBy m (Some i) c x = (usable m i ≡ true) × (composed_of m i x ≡ Some c)

-- a tap of the cell does
abbrev pub IsMade : MapValue → Option ℕ → ℕ → Cell → Type 0
IsMade m accent c x = (y : Symbol) × (x ≡ cell_of y) × MakesBy m accent c y

-- no press of the key looks up such a cell, whatever picks it
abbrev pub Lacks : MapValue → Option ℕ → ℕ → ℕ → Type 0
Lacks m accent c k = (y : Selection) → IsMade m accent c (look_selected m y k) → ⊥

-- ---- what was met

-- a search of the map alone by allowed presses, which minds the accent, if one is told
abbrev pub under_by : Allows → Option ℕ → MapValue → Under
under_by a accent m = record { maps = between m m; has_loads = false; allows = a; minded = accent }

abbrev pub ReachesMany : MapValue → State → Type 0
ReachesMany m s = (p : ℕ) × ReachesMoreThanFrom (alone m) s state_limit p

-- The states that presses of the course lead to from the source. If they aren't all, there are many states.
pub record IsReached (b : Board) (m : MapValue) (o : Course) (r : Reached) : Type 0 where
  pub presses : Presses
  pub known : IsMap m
  pub are : ArePresses b o.class o.spared presses
  pub source : IsOrigin (state_of o.from)
  pub end : End
  pub ended : HasEnded (under_by (is_pressed presses) o.accent m) (state_of o.from ∷ []) r.met.entries end
  pub complete : r.is_complete ≡ true → end ≡ Complete
  pub partial : r.is_complete ≡ false → ReachesMany m (state_of o.from)

-- ---- what ends ways

-- the course presses the key, and it is the one that is told, if one is
abbrev pub MayEnd : Board → Course → Target → ℕ → Type 0
MayEnd b o c k = (takes_key b o.class o.spared k ≡ true) × IsLast c.last k

-- no such key has a cell whose tap types the character
abbrev pub LackAll : Board → MapValue → Course → Target → Type 0
LackAll b m o c = (k : ℕ) → k < key_count → MayEnd b o c k → Lacks m o.accent c.character k

-- the keys are such, but for some that have no such cell
pub record IsEnding (b : Board) (m : MapValue) (o : Course) (c : Target) (e : Ending) : Type 0 where
  pub same : e.accent ≡ o.accent
  pub types : e.character ≡ c.character
  pub taken : (k : ℕ) → k < key_count → slice_index_or e.keys k false ≡ true → MayEnd b o c k
  pub other : (k : ℕ) → k < key_count → slice_index_or e.keys k false ≡ false → MayEnd b o c k
      → Lacks m o.accent c.character k

-- the key holds nothing, and looks up a cell whose tap types the character
abbrev pub IsGiven : MapValue → Ending → State → ℕ → Type 0
IsGiven m e s k = IsIdle s k × IsMade m e.accent e.character (look_selected m (selection_of s) k)

-- and is pressed, while meta is off and the accent is pending
pub record Gives (m : MapValue) (e : Ending) (s : State) (k : ℕ) : Type 0 where
  pub below : k < key_count
  pub taken : slice_index_or e.keys k false ≡ true
  pub given : IsGiven m e s k
  pub meta : is_held s Meta ≡ false
  pub pending : s.is_pending ≡ is_some e.accent

-- and a route leads home
abbrev pub EndsAt : MapValue → Ending → Routes → State → ℕ → Type 0
EndsAt m e routes s k = Gives m e s k × HasRoute routes (without_accent s)

-- the events lead to the place, by as many presses as are told, and the state there is this one, but for the accent
pub record IsFoundAt (es : Entries) (at : KeyAt) (f : Found) : Type 0 where
  pub entry : Entry
  pub there : slice_get es at.place ≡ Some entry
  pub state : state_of f.held ≡ without_accent (state_of entry.0)
  pub key : f.key ≡ at.key
  pub presses : f.presses ≡ entry.1.presses
  pub events : (path : List Move) → IsTrail es at.place path → reverse f.events.items ≡ events_along path

-- what leads to the first place where a way may end, or nothing where there is none
abbrev pub IsNearestAt : MapValue → Ending → Routes → Entries → Option Found → Type 0
IsNearestAt m e routes es o =
    (at : Option KeyAt) × IsFirst (λ h. EndsAt m e routes (state_of h)) es at
    × MatchOption o (at ≡ None) (λ f. (x : KeyAt) × (at ≡ Some x) × IsFoundAt es x f)
