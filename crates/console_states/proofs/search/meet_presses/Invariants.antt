-- what presses of the keys below the place lead to was met
use Rattle.console_states.proofs.Common.{◌<◌, ℕ, get_or, state_of, under_of, AreWithin, AreAdded, PressesLead, IsMetBy}
use Rattle.console_states.proofs.search.meet_presses.Given as goal

abbrev pub invariant-loop-key : goal.invariant-loop-key
invariant-loop-key l = record {
  within : AreWithin l.met.entries l.presses;
  met : (j : ℕ) → j < l.key-index
      → PressesLead (under_of l.maps) (state_of l.from.held) (get_or l.keys j 0) (IsMetBy l.met.entries l.presses);
  added : AreAdded (under_of l.maps) (state_of l.from.held) l.from.place 1 l.presses l.fn.met.entries l.met.entries;
}
