-- the selections of the states below the place
use Rattle.console_states.proofs.Common.{[], Adds, HasSelection, IsInSome}
use Rattle.console_states.proofs.sights.selections_of.Given as goal

abbrev pub invariant-loop-place : goal.invariant-loop-place
invariant-loop-place l =
    Adds (λ y. IsInSome l.met.entries l.place (HasSelection l.is_pending y)) [] l.selections.items
