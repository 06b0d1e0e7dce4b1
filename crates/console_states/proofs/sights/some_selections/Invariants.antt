-- moves lead to the selections of the states below the place
use Rattle.console_states.proofs.Common.{MapValue, alone, AreLedTo, CanSelectEach}
use Rattle.console_states.proofs.sights.some_selections.Given as goal

abbrev pub invariant-loop-held : goal.invariant-loop-held
invariant-loop-held l = (m : MapValue) → AreLedTo (alone m) l.states → CanSelectEach m l.selections.items
