-- the states below the place stand there
use Rattle.console_scripts.proofs.Common.{◌≡◌, ◌<◌, ℕ, slice_get, Some, Contains, Entry}
use Rattle.console_scripts.proofs.routes.states_of.Given as goal

abbrev pub invariant-loop-place : goal.invariant-loop-place
invariant-loop-place l =
    (j : ℕ) (x : Entry) → j < l.place → slice_get l.met.entries j ≡ Some x → Contains l.states.items x.0
