-- How a console stands in a state of the search.
use Rattle.std.specs.Prelude.{◌≡◌, ◌≢◌, ℕ, ◌<◌, true, false, List, Some}
use Rattle.keymap_core.specs.declared.action.Action.{Action}
use Rattle.keymap_core.specs.declared.action.Action.TheVariants as act
use Rattle.keymap_core.specs.declared.action.Lock.{Lock}
use Rattle.keymap_core.specs.declared.action.Lock.TheVariants.{Scroll}
use Rattle.keymap_core.specs.declared.action.Modifier.{Modifier}
use Rattle.keymap_core.specs.declared.action.Holding.TheVariants as holding
use Rattle.console_core.specs.declared.event.Event.{Event}
use Rattle.console_core.specs.Resolved.{ResolvedEvent, held, locked, on, remembered}
use Rattle.console_core.specs.History.{resolved, is_second_in_force, pressed, HasKeys}
use Rattle.console_states.specs.Moves.{Under, State, is_held, Holds}

-- The state is that of the console: the same modifiers are on and the same locks, but for the scroll lock, and each
-- holder remembers its modifier.
pub record Follows (r : List ResolvedEvent) (s : State) : Type 0 where
  pub on : (i : Modifier) → on i r ≡ is_held s i
  pub locked : (l : Lock) → l ≢ Scroll → locked l r ≡ s.is_locked l
  pub holds : (i : Modifier) (k : ℕ) → Holds s k i → remembered k r ≡ Some (act.Mod i)

-- the key holds some modifier
abbrev pub HoldsSome : State → ℕ → Type 0
HoldsSome s k = (i : Modifier) × Holds s k i

-- The state is that of the console, and no key but a holder remembers anything: so no lock is down.
pub record Exact (r : List ResolvedEvent) (s : State) : Type 0 where
  pub follows : Follows r s
  pub only : (k : ℕ) (a : Action) → remembered k r ≡ Some a → HoldsSome s k
  pub up : (l : Lock) → held (holding.Lock l) r ≡ false

-- The events lead to the state, and only holders are pressed after them.
pub record Stands (u : Under) (h : List Event) (s : State) : Type 0 where
  pub exact : Exact (resolved u.maps h) s
  pub second : s.is_second ≡ is_second_in_force h
  pub key : (i : Modifier) (k : ℕ) → Holds s k i → k < 128
  pub pressed : (k : ℕ) → pressed k h ≡ true → HoldsSome s k
  pub keys : HasKeys h
