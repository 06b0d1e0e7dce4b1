use Rattle.keymap_text.proofs.Common.{◌≡◌, ◌≤◌, ◌-◌, limit}
use Rattle.keymap_text.proofs.Feeding.{IsFed}
use Rattle.keymap_text.proofs.source.read_from.Given as goal

abbrev pub invariant-loop-taken : goal.invariant-loop-taken
invariant-loop-taken g l = record {
  fed : IsFed (g.R.Read.remaining l.fn.reader) (g.R.Read.remaining l.reader) l.text l.taken;
  within : l.taken ≤ limit;
  sound : g.R.Read.has_failed l.reader ≡ g.R.Read.has_failed l.fn.reader;
}

abbrev pub decreases-loop-taken : goal.decreases-loop-taken
decreases-loop-taken g l = limit - l.taken
