-- What an exploration keeps, and the events of one tap of a key. Mirrors `Explored` of src/explored.rt, and
-- src/typing.rt.
use Rattle.std.specs.Prelude.{◌≡◌, ◌≤◌, ℕ, Bool, true, false, List, [], ◌∷◌, ◌++◌, length, reverse, None, Some}
use Rattle.std.specs.Prelude.{slice_get, Option, map}
use Rattle.keymap_core.specs.Maps.{MapValue}
use Rattle.console_scripts.specs.Types.{Event, Move, Answer, Scroll}
use Rattle.console_scripts.specs.declared.explored.Explored.{Explored}
use Rattle.console_scripts.specs.declared.explored.Symbol.{Symbol}
use Rattle.console_states.specs.declared.held.Held.{Held}
use Rattle.console_states.specs.Moves.{Under, alone, State, IsFree, IsPath, state_after, IsPathFrom, state_from}
use Rattle.console_states.specs.Moves.{events_along}
use Rattle.console_states.specs.Returning.{IsHome, freed}
use Rattle.console_states.specs.Sticking.{ReachesMoreThanFrom, ReachesMoreThan, state_limit}
use Rattle.console_core.specs.History.{answer_to, between, accent_pending_after, is_locked_after}
use Rattle.console_scripts.specs.Typing.{ComesHome, IsTapOf, types_something, plainly, CanType, ChangeKeys}
use Rattle.console_scripts.specs.declared.typing.Kept.{Kept}
use Rattle.console_scripts.specs.declared.typing.Sought.{Sought}
use Rattle.console_scripts.specs.declared.typing.Typed.{Typed}
use Rattle.console_scripts.specs.declared.typing.Typed.TheVariants as typed
use Rattle.keyboard.specs.declared.board.Board.{Board}
use Rattle.console_scripts.specs.Ways.{HasNoWayFrom, TakesWayOf, ending_with}
use Rattle.console_scripts.specs.declared.typing.Step.{Step}
use Rattle.console_scripts.specs.declared.courses.Target.{Target}
use Rattle.console_scripts.specs.Inner.Routes.{AllEntries, AllLeadHome, HasRoute, AreSettled}
use Rattle.console_states.specs.Searching.{state_of, under_of, Entry, Searched}
use Rattle.console_states.specs.Inner.Standing.{Stands}

abbrev pub map_of_explored : Explored → MapValue
map_of_explored e = e.maps.first.now

abbrev pub origin_in : Explored → State
origin_in e = state_of e.origin

-- the first map is in force, and no accent is pending
abbrev pub IsOrigin : State → Type 0
IsOrigin s = (s.is_second ≡ false) × (s.is_pending ≡ false)

-- The states of a map without loads that moves lead to from the origin, with routes home. If they are all, a route
-- begins at each from which moves lead home.
pub record IsExplored (e : Explored) : Type 0 where
  pub under : under_of e.maps ≡ alone (map_of_explored e)
  pub origin : IsOrigin (origin_in e)
  pub searched : Searched (alone (map_of_explored e)) (origin_in e ∷ []) e.met.entries 0 0
  pub home : AllLeadHome (alone (map_of_explored e)) e.routes.entries
  pub whole : e.is_complete ≡ true
      → Searched (alone (map_of_explored e)) (origin_in e ∷ []) e.met.entries (length e.met.entries)
      (length e.met.entries)
      × AreSettled (alone (map_of_explored e)) e.met.entries e.routes.entries
  pub few : e.is_complete ≡ true → length e.met.entries ≤ state_limit
  pub more : e.is_complete ≡ false
      → (p : ℕ) × ReachesMoreThanFrom (alone (map_of_explored e)) (origin_in e) state_limit p

-- A state where nothing is held, that moves lead to and from which moves lead home.
pub record CanReturn (m : MapValue) (s : State) : Type 0 where
  pub free : IsFree s
  pub path : List Move
  pub is : IsPath (alone m) path
  pub leads : state_after (alone m) path ≡ s
  pub home : ComesHome (alone m) s

-- a route leads home from the state, and there the key can be tapped for the symbol
abbrev pub CanTapIn : Explored → Symbol → Held → ℕ → Type 0
CanTapIn e x h k =
    HasRoute e.routes.entries (state_of h)
    × IsTapOf (alone (map_of_explored e)) (state_of h) false x k

-- that is so at the place
abbrev pub IsTapAt : Explored → Symbol → ℕ → ℕ → Type 0
IsTapAt e x j k =
    (y : Entry) × (slice_get e.met.entries j ≡ Some y) × HasRoute e.routes.entries (state_of y.0)
    × IsTapOf (alone (map_of_explored e)) (state_of y.0) false x k

abbrev pub HasTap : Explored → Symbol → Type 0
HasTap e x = (j k : ℕ) × IsTapAt e x j k

-- the place has a state from which a route leads home
abbrev pub IsMetAt : Explored → ℕ → Type 0
IsMetAt e j = (x : Entry) × (slice_get e.met.entries j ≡ Some x) × HasRoute e.routes.entries (state_of x.0)

-- all holders let go, one after another: the events of that, newest first, came after h
pub record LetsGo (s : State) (h now : List Event) (next : State) : Type 0 where
  pub path : List Move
  pub is : (u : Under) → IsPathFrom u s path
  pub leads : (u : Under) → state_from u s path ≡ next
  pub freed : next ≡ freed s
  pub events : now ≡ events_along path ++ h

-- After h came moves from the state to one where nothing is held, and from which moves lead home.
pub record Leaves (u : Under) (s : State) (h now : List Event) (next : State) : Type 0 where
  pub back : List Move
  pub returns : IsPathFrom u s back
  pub leads : state_from u s back ≡ next
  pub events : now ≡ events_along back ++ h
  pub free : IsFree next
  pub home : ComesHome u next

-- moves lead home from the state: their events, newest first, came after h
abbrev pub GoesHome : Under → State → List Event → List Event → Type 0
GoesHome u s h now =
    (back : List Move) × IsPathFrom u s back × IsHome (state_from u s back) × (now ≡ events_along back ++ h)

-- the answers that type something along a list, the newest first
abbrev pub kept_if : Bool → Answer → List Answer
kept_if true a = a ∷ []
kept_if false a = []

abbrev pub typed_along : MapValue → List Event → List Answer
typed_along m [] = []
typed_along m (e ∷ h) =
    kept_if (types_something (answer_to (between m m) h e)) (answer_to (between m m) h e) ++ typed_along m h

-- After the events, which press released keys and release pressed ones, the console stands in the state, with this
-- accent pending and the scroll lock off, and these characters were typed.
pub record HasTyped (m : MapValue) (h : List Event) (s : State) (p : Option ℕ) (cs : List ℕ) : Type 0 where
  pub stands : Stands (alone m) h s
  pub changes : ChangeKeys h
  pub pending : accent_pending_after (between m m) h ≡ p
  pub scroll : is_locked_after (between m m) Scroll h ≡ false
  pub typed : typed_along m h ≡ map plainly (reverse cs)

-- explorations by the state where they begin
abbrev pub Explorations : Type 0
Explorations = List (Held × Explored)

abbrev pub IsExploredFrom : MapValue → State → Explored → Type 0
IsExploredFrom m s e = IsExplored e × (map_of_explored e ≡ m) × (origin_in e ≡ s)

abbrev pub AreExplorations : MapValue → Explorations → Type 0
AreExplorations m explorations = AllEntries (λ k e. IsExploredFrom m (state_of k) e) explorations

-- The events that came after h type the character from the state, by a way that is taken, and lead to the next one.
pub record TypesOne (b : Board) (m : MapValue) (c : Target) (s : State) (h now : List Event) (to : Step) : Type 0 where
  pub can : CanType m c.character
  pub can_return : CanReturn m (state_of to.next)
  pub added : List Event
  pub events : now ≡ added ++ h
  pub way : TakesWayOf to.class to.before b m s c added
  pub types : (g : List Event) (cs : List ℕ) → HasTyped m g s None cs
      → HasTyped m (added ++ g) (state_of to.next) None (cs ++ c.character ∷ [])

-- what was typed before, by the character and the state where it began
abbrev pub IsKnown : Board → MapValue → Sought → Kept → Type 0
IsKnown b m k v =
    TypesOne b m (ending_with None k.character) (state_of k.from) [] (reverse v.events.items) v.step

abbrev pub AreKnown : Board → MapValue → List (Sought × Kept) → Type 0
AreKnown b m known = AllEntries (IsKnown b m) known

abbrev pub Leads : Board → MapValue → Target → State → List Event → List Event → Typed → Type 0
Leads b m c s h now (typed.To step) = TypesOne b m c s h now step
Leads b m c s h now typed.NoWay = HasNoWayFrom b m s c
Leads b m c s h now typed.TooManyStates = (p : ℕ) × ReachesMoreThan (alone m) state_limit p
