-- the nearest way with the dead key of an accent before this one was found
use Rattle.console_scripts.proofs.Common.{◌≡◌, ◌≤◌, ◌-◌, false, map_of_explored, state_of}
use Rattle.console_scripts.specs.Inner.Courses.{allows_but}
use Rattle.console_scripts.specs.Inner.Seeking.{AreReached, HasAccentBelow, IsLooked}
use Rattle.console_scripts.proofs.seeking.Seeker.find_composed.Given as goal

abbrev pub invariant-loop-by : goal.invariant-loop-by
invariant-loop-by l = record {
  below : l.index ≤ 15;
  board : l.self.board ≡ l.fn.self.board;
  courses : AreReached l.self.board (map_of_explored l.explored) l.self.courses.entries;
  looked : IsLooked (allows_but l.fn.self.board l.course.class l.course.spared) (map_of_explored l.explored)
      (state_of l.course.from) l.target false (HasAccentBelow l.index) l.explored.routes.entries l.nearest;
}

abbrev pub decreases-loop-by : goal.decreases-loop-by
decreases-loop-by l = 15 - l.index
