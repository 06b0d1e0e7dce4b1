-- a press of none of the keys below the code leads to where a route begins
use Rattle.console_scripts.proofs.Common.{◌<◌, ℕ, state_of, under_of, NoPressLeads}
use Rattle.console_scripts.proofs.routes.route_by_press.Given as goal

abbrev pub invariant-loop-code : goal.invariant-loop-code
invariant-loop-code l = (k : ℕ) → k < l.code → NoPressLeads (under_of l.maps) l.routes.entries (state_of l.held) k
