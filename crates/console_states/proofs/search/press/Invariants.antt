-- the states of the level below the place are pressed
use Rattle.console_states.proofs.Common.{◌+◌, List, length, State, under_of, Searched, AreInOrder, Grows}
use Rattle.console_states.proofs.search.press.Given as goal

abbrev pub invariant-loop-place : goal.invariant-loop-place
invariant-loop-place l = record {
  searched : (origins : List State)
      → Searched (under_of l.maps) origins l.fn.met.entries l.level (length l.fn.met.entries)
      → Searched (under_of l.maps) origins l.met.entries l.place (length l.fn.met.entries);
  order : AreInOrder l.met.entries (length l.fn.met.entries) (l.presses + 1);
  grown : Grows l.fn.met.entries l.met.entries;
}
