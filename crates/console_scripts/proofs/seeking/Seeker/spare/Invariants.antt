-- what was met is of the keymap and the board
use Rattle.console_scripts.proofs.Common.{◌≡◌, map_of_explored}
use Rattle.console_scripts.specs.Inner.Seeking.{AreReached}
use Rattle.console_scripts.proofs.seeking.Seeker.spare.Given as goal

abbrev pub invariant-loop-spared : goal.invariant-loop-spared
invariant-loop-spared l = record {
  board : l.self.board ≡ l.fn.self.board;
  courses : AreReached l.self.board (map_of_explored l.explored) l.self.courses.entries;
}
