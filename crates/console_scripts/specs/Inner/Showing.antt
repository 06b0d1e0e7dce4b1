-- How the events of a visit lead a console, step by step. Mirrors src/showing.rt and src/explorer.rt.
use Rattle.std.specs.Prelude.{◌≡◌, ◌⊎◌, ℕ, ◌<◌, Bool, true, List, ◌++◌, Option, None, Some}
use Rattle.std.specs.Map.{keys_of}
use Rattle.keymap_core.specs.Maps.{MapValue}
use Rattle.keymap_core.specs.Numbers.{key_count}
use Rattle.console_scripts.specs.Types.{Scroll, Act, Event, Sight}
use Rattle.console_scripts.specs.declared.explored.Explored.{Explored}
use Rattle.console_states.specs.declared.look.KeyAt.{KeyAt}
use Rattle.console_scripts.specs.declared.explorer.Aim.{Aim}
use Rattle.console_states.specs.Looks.{HoldsAt}
use Rattle.console_states.specs.declared.held.Held.{Held}
use Rattle.console_scripts.specs.declared.explored.Symbol.TheVariants as symbol
use Rattle.console_states.specs.declared.selection.Sight.TheVariants as sight
use Rattle.console_core.specs.Answers.{usable}
use Rattle.console_core.specs.History.{between, accent_pending_after}
use Rattle.keymap_core.specs.declared.action.Action.TheVariants as act
use Rattle.console_states.specs.Moves.{alone, State, start, Takes}
use Rattle.console_states.specs.Returning.{IsAfter}
use Rattle.console_scripts.specs.Visiting.{AreTaken}
use Rattle.console_states.specs.Sights.{IsPendingFor, IsReachable, SeesBy, selection_of}
use Rattle.console_scripts.specs.Inner.Exploring.{map_of_explored, origin_in, IsExplored, IsTapAt}
use Rattle.console_scripts.specs.Inner.Routes.{HasRoute}
use Rattle.console_states.specs.Searching.{state_of, under_of, Entries}
use Rattle.console_states.specs.Inner.Standing.{Stands}

-- The states were explored from the start, and these are all.
abbrev pub IsWhole : Explored → Type 0
IsWhole e = IsExplored e × (origin_in e ≡ start) × (e.is_complete ≡ true)

-- Behind h the events, which are taken, led a console to the state.
pub record IsAt (m : MapValue) (s : State) (h later : List Event) : Type 0 where
  pub at : State
  pub stands : Stands (alone m) (later ++ h) at
  pub near : at ≡ s
  pub taken : AreTaken h later

-- wherever the first events lead a console to the one state, the second lead it to the other
abbrev pub Leads : MapValue → State → State → List Event → List Event → Type 0
Leads m s t old now = (h : List Event) → IsAt m s h old → IsAt m t h now

-- the second events lead there and keep the accent that is pending
abbrev pub LeadsOn : MapValue → State → State → List Event → List Event → Type 0
LeadsOn m s t old now =
    (h : List Event) → IsAt m s h old
    → IsAt m t h now
    × (accent_pending_after (between m m) (now ++ h) ≡ accent_pending_after (between m m) (old ++ h))

-- the second events lead there and leave the accent pending, if none was before and it is usable
abbrev pub LeadsComposing : MapValue → ℕ → State → State → List Event → List Event → Type 0
LeadsComposing m accent s t old now =
    (h : List Event) → IsAt m s h old
    → IsAt m t h now
    × (accent_pending_after (between m m) (old ++ h) ≡ None → usable m accent ≡ true
    → accent_pending_after (between m m) (now ++ h) ≡ Some accent)

-- the second events lead to where what can be seen of the sight is seen by the press that sees it
abbrev pub LeadsToSee : MapValue → Sight → State → State → List Event → List Event → Type 0
LeadsToSee m x s t old now =
    (h : List Event) → IsAt m s h old
    → IsAt m t h now
    × (accent_pending_after (between m m) (old ++ h) ≡ None → IsReachable m x → IsPendingFor m (now ++ h) x)

-- in the state a press of the key sees it, where a pair's accent is pending
abbrev pub Sees : Explored → Sight → Held → ℕ → Type 0
Sees e x h k = (k < key_count) × SeesBy (map_of_explored e) (selection_of (state_of h)) k x

-- and, if it is to lead back, leads to a state from which a route leads home
abbrev pub Shows : Explored → Sight → Bool → Held → ℕ → Type 0
Shows e x back h k =
    Sees e x h k
    × (back ≡ true → (t : State) × IsAfter (under_of e.maps) (state_of h) k t × HasRoute e.routes.entries t)

-- in the state no press sees it, or, if it is to lead back, one does that leads to where no route begins
abbrev pub ShowsNot : Explored → Sight → Bool → Held → Type 0
ShowsNot e x back h =
    ((k : ℕ) → Sees e x h k → ⊥)
    ⊎ ((back ≡ true) × (k : ℕ) × (t : State) × Sees e x h k × IsAfter (under_of e.maps) (state_of h) k t
    × (HasRoute e.routes.entries t → ⊥))

-- in the state a press of the key turns the scroll lock
abbrev pub TurnsScroll : Explored → Held → ℕ → Type 0
TurnsScroll e h k = Takes (under_of e.maps) (state_of h) k (Act (act.Lock Scroll))

-- before a pair the dead key of its accent is tapped, and before nothing else
abbrev pub IsDeadFor : Explored → Sight → Option KeyAt → Type 0
IsDeadFor e (sight.Pair accent c) (Some at) = IsTapAt e (symbol.DeadKey accent) at.place at.key
IsDeadFor e (sight.Pair accent c) None = ⊥
IsDeadFor e (sight.Cell slot column) (Some at) = ⊥
IsDeadFor e (sight.Cell slot column) None = Unit {0}
IsDeadFor e (sight.Locks slot caps num) (Some at) = ⊥
IsDeadFor e (sight.Locks slot caps num) None = Unit {0}

abbrev pub IsAim : Explored → Aim → Type 0
IsAim e a = HoldsAt (Shows e a.sight true) e.met.entries a.at × IsDeadFor e a.sight a.dead

-- the states that were met, in their order
abbrev pub states_in : Entries → List Held
states_in es = keys_of es
