-- the characters before the place were typed
use Rattle.console_scripts.proofs.Common.{◌≡◌, None, length, ◌-◌, AreKnown, AreExplorations, state_of}
use Rattle.console_scripts.specs.Inner.Seeking.{AreReached}
use Rattle.console_scripts.proofs.Typings.{HaveBeenTyped}
use Rattle.console_scripts.proofs.typing.Scribe.type_all.Given as goal

abbrev pub invariant-loop-place : goal.invariant-loop-place
invariant-loop-place l = record {
  explorations : AreExplorations l.map l.self.explorations.entries;
  board : l.self.seeker.board ≡ l.fn.self.seeker.board;
  reached : AreReached l.self.seeker.board l.map l.self.seeker.courses.entries;
  known : AreKnown l.self.seeker.board l.map l.self.known.entries;
  typed : HaveBeenTyped None l.fn.self.seeker.board l.map l.characters l.place l.keyed.items l.self.events.items
      (state_of l.from);
}

abbrev pub decreases-loop-place : goal.decreases-loop-place
decreases-loop-place l = length l.characters - l.place
