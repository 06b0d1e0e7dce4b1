-- none of the classes before this one has a way, or there are many states
use Rattle.console_scripts.proofs.Common.{◌≡◌, true, false, map_of_explored, origin_in}
use Rattle.console_scripts.specs.Inner.Courses.{ReachesMany}
use Rattle.console_scripts.specs.Inner.Seeking.{AreReached, HasNoWayBelow}
use Rattle.console_scripts.proofs.seeking.Seeker.choose.Given as goal

abbrev pub invariant-loop-place : goal.invariant-loop-place
invariant-loop-place l = record {
  board : l.self.board ≡ l.fn.self.board;
  courses : AreReached l.self.board (map_of_explored l.explored) l.self.courses.entries;
  none : l.has_met_all ≡ true
      → HasNoWayBelow l.fn.self.board (map_of_explored l.explored) (origin_in l.explored) l.target l.place;
  many : l.has_met_all ≡ false → ReachesMany (map_of_explored l.explored) (origin_in l.explored);
}
