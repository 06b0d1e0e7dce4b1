-- each key below this one of which the table says that it may not bears nothing
use Rattle.keymap_consequences.proofs.Common.{length, ◌≡◌}
use Rattle.keymap_consequences.specs.Inner.Keys.{AreQuiet}
use Rattle.keymap_consequences.proofs.bearing.Keys.of.Given as goal

abbrev pub invariant-loop-code : goal.invariant-loop-code
invariant-loop-code l = record {
  quiet : AreQuiet l.map l.code l.keys;
  size : length l.keys ≡ 128;
}
