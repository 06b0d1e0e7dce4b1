use Rattle.keymap_text.proofs.Common.{◌≤◌, ◌-◌, length, Ok, Takes, IsPlace}
use Rattle.keymap_text.proofs.scanner.scan.Given as goal

abbrev pub invariant-loop-at : goal.invariant-loop-at
invariant-loop-at g l = record {
  inside : l.at ≤ length l.bytes;
  place : IsPlace l.grammar.place l.grammar.accent;
  takes : Takes g.D.Definitions.shows l.fn.into l.into (Ok l.at) l.fn.grammar l.grammar l.bytes;
}

abbrev pub decreases-loop-at : goal.decreases-loop-at
decreases-loop-at g l = length l.bytes - l.at
