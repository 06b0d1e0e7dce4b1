-- the states of the level below the place are closed
use Rattle.console_states.proofs.Common.{◌≤◌, ◌-◌, List, length, State, under_of, Searched, AreInOrder, Grows}
use Rattle.console_states.proofs.search.close.Given as goal

abbrev pub invariant-loop-place : goal.invariant-loop-place
invariant-loop-place l = record {
  searched : (origins : List State) → Searched (under_of l.maps) origins l.fn.met.entries l.level l.level
      → Searched (under_of l.maps) origins l.met.entries l.level l.place;
  order : AreInOrder l.met.entries l.level l.presses;
  grown : Grows l.fn.met.entries l.met.entries;
  after : l.level ≤ l.place;
  below : l.level ≤ length l.met.entries;
}

abbrev pub decreases-loop-place : goal.decreases-loop-place
decreases-loop-place l = 131073 - l.place
