-- the states below the level are pressed and closed, and as many presses lead to the others
use Rattle.console_states.proofs.Common.{◌≤◌, ◌-◌, List, length, State, under_of, Searched, AreInOrder, limit_of}
use Rattle.console_states.proofs.search.meet_levels.Given as goal

abbrev pub invariant-loop-level : goal.invariant-loop-level
invariant-loop-level l = record {
  searched : (origins : List State) → Searched (under_of l.maps) origins l.fn.met.entries 0 0
      → Searched (under_of l.maps) origins l.met.entries l.level l.level;
  order : AreInOrder l.met.entries l.level l.presses;
  below : l.level ≤ length l.met.entries;
  levels : l.presses ≤ l.level;
  few : l.level ≤ limit_of (under_of l.maps);
}

abbrev pub decreases-loop-level : goal.decreases-loop-level
decreases-loop-level l = 131073 - l.level
