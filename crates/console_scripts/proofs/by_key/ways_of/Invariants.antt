-- the ways by the keys before this one are told
use Rattle.console_scripts.proofs.Common.{◌≡◌, AreExplorations}
use Rattle.console_scripts.specs.Inner.Seeking.{AreReached}
use Rattle.console_scripts.proofs.KeyWays.{AreWaysBelow}
use Rattle.console_scripts.proofs.by_key.ways_of.Given as goal

abbrev pub invariant-loop-code : goal.invariant-loop-code
invariant-loop-code l = record {
  explorations : AreExplorations l.map l.scribe.explorations.entries;
  board : l.scribe.seeker.board ≡ l.fn.board;
  reached : AreReached l.scribe.seeker.board l.map l.scribe.seeker.courses.entries;
  ways : AreWaysBelow l.fn.board l.map l.character l.code l.ways.items;
}
