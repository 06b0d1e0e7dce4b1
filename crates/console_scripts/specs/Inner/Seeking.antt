-- The way that is taken, among those of a class and of all classes. Mirrors src/seeking.rt.
use Rattle.std.specs.Prelude.{◌≡◌, ℕ, ◌+◌, ◌<◌, ◌≤◌, Bool, true, false, List, ◌∷◌, ◌⊎◌, Option, None, Some, reverse}
use Rattle.std.specs.Prelude.{IfSome}
use Rattle.keymap_core.specs.Maps.{MapValue}
use Rattle.keyboard.specs.declared.board.Board.{Board}
use Rattle.console_states.specs.Allowed.{Allows}
use Rattle.console_states.specs.Moves.{State, alone, state_of}
use Rattle.console_scripts.specs.Types.{Press}
use Rattle.console_scripts.specs.Ways.{DeadTap, IsTaken, IsWay, IsWayBy, Way, allows_in, events_of_way, is_one_tap}
use Rattle.console_scripts.specs.Ways.{presses_of_way, rank, state_at_end}
use Rattle.console_scripts.specs.Inner.Courses.{IsReached, ReachesMany}
use Rattle.console_scripts.specs.Inner.Routes.{AllEntries, HasRoute, Routes}
use Rattle.console_scripts.specs.declared.classes.Class.{Class}
use Rattle.console_scripts.specs.declared.courses.Course.{Course}
use Rattle.console_scripts.specs.declared.courses.Found.{Found}
use Rattle.console_scripts.specs.declared.courses.Reached.{Reached}
use Rattle.console_scripts.specs.declared.courses.Target.{Target}
use Rattle.console_scripts.specs.declared.seeking.Choice.{Choice}
use Rattle.console_scripts.specs.declared.seeking.Chosen.{Chosen}
use Rattle.console_scripts.specs.declared.seeking.Looked.{Looked}

abbrev pub AreReached : Board → MapValue → List (Course × Reached) → Type 0
AreReached b m es = AllEntries (IsReached b m) es

-- the accent of the dead key, if there is one
abbrev pub accent_in : Option DeadTap → Option ℕ
accent_in None = None
accent_in (Some d) = Some d.accent

-- What was found is a way of allowed presses, of one tap or not, and a route leads home from its end.
pub record IsFound (a : Allows) (m : MapValue) (s : State) (c : Target) (one : Bool) (routes : Routes)
    (f : Found) : Type 0
  where
    pub way : Way
    pub is : IsWayBy a m s c way
    pub taps : is_one_tap way.dead ≡ one
    pub count : presses_of_way way ≡ f.presses + 1
    pub key : way.key ≡ f.key
    pub events : Press f.key ∷ reverse f.events.items ≡ events_of_way way
    pub there : state_of f.held ≡ state_at_end (alone m) s way
    pub route : HasRoute routes (state_of f.held)

-- something was found, and has no more presses than the way
abbrev pub IsAsNear : Option Found → Way → Type 0
IsAsNear None y = ⊥
IsAsNear (Some f) y = f.presses + 1 ≤ presses_of_way y

-- the first, if there is no second or that has as many presses or more, and else the second
abbrev pub IsNearerOf : Option Found → Option Found → Option Found → Type 0
IsNearerOf None b r = r ≡ b
IsNearerOf (Some x) None r = r ≡ Some x
IsNearerOf (Some x) (Some y) r = ((x.presses ≤ y.presses) × (r ≡ Some x)) ⊎ ((y.presses ≤ x.presses) × (r ≡ Some y))

-- Something was found that is as near as each way of which P holds, or nothing and there is no such way, if all states
-- were met. Else there are many states.
pub record IsLooked (a : Allows) (m : MapValue) (s : State) (c : Target) (one : Bool) (P : Way → Type 0)
    (routes : Routes) (r : Looked) : Type 0
  where
    pub found : IfSome r.found (IsFound a m s c one routes)
    pub all : r.has_met_all ≡ true → (y : Way) → P y → IsWayBy a m s c y → IsAsNear r.found y
    pub many : r.has_met_all ≡ false → ReachesMany m s

-- the way has the dead key of the accent, if one is told, and else none
abbrev pub HasAccent : Option ℕ → Way → Type 0
HasAccent accent y = accent_in y.dead ≡ accent

abbrev pub HasTaps : Bool → Way → Type 0
HasTaps one y = is_one_tap y.dead ≡ one

-- the way has the dead key of one of the first accents
abbrev pub HasAccentBelow : ℕ → Way → Type 0
HasAccentBelow n y = (i : ℕ) × (accent_in y.dead ≡ Some i) × (i < n)

-- what was found of the class is a way of it, and if all states were met the one that is taken
abbrev pub IsChosenOf : Board → MapValue → State → Target → Routes → Bool → Chosen → Type 0
IsChosenOf b m s c routes met_all o =
    (x : IsFound (allows_in b o.class) m s c o.class.is_one_tap routes o.found)
    × (met_all ≡ true → IsTaken b o.class m s c x.way)

-- no class that fewer than n come before has a way
abbrev pub HasNoWayBelow : Board → MapValue → State → Target → ℕ → Type 0
HasNoWayBelow b m s c n = (w : Class) (y : Way) → rank w < n → IsWay b w m s c y → ⊥

pub record IsChosen (b : Board) (m : MapValue) (s : State) (c : Target) (routes : Routes) (r : Choice) : Type 0 where
  pub found : IfSome r.chosen (IsChosenOf b m s c routes r.has_met_all)
  pub none : r.chosen ≡ None → r.has_met_all ≡ true → HasNoWayBelow b m s c 32
  pub many : r.has_met_all ≡ false → ReachesMany m s
