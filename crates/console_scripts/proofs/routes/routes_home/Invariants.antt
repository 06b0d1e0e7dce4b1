-- a route begins at each state that was met, or it is among those that are left
use Rattle.console_scripts.proofs.Common.{◌≡◌, ◌⊎◌, ℕ, length, slice_get, Some, Contains, state_of, under_of, Entry}
use Rattle.console_scripts.proofs.Common.{AllLeadHome, HasRoute}
use Rattle.console_scripts.proofs.routes.routes_home.Given as goal

abbrev pub invariant-loop-states : goal.invariant-loop-states
invariant-loop-states l = record {
  home : AllLeadHome (under_of l.maps) l.routes.entries;
  all : (j : ℕ) (x : Entry) → slice_get l.met.entries j ≡ Some x
      → HasRoute l.routes.entries (state_of x.0) ⊎ Contains l.states.items x.0;
}

abbrev pub decreases-loop-states : goal.decreases-loop-states
decreases-loop-states l = length l.states.items
