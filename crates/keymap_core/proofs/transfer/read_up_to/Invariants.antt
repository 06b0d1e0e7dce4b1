use Rattle.keymap_core.proofs.Common.{◌≡◌, ◌≤◌, ◌-◌, vec_len}
use Rattle.std.specs.Io.KnownBytes.{Consumes}
use Rattle.keymap_core.proofs.transfer.read_up_to.Given as goal

-- The bytes kept are those that the reader gave, and it hasn't failed in this call.
abbrev pub invariant-loop-buffer : goal.invariant-loop-buffer
invariant-loop-buffer g l = record {
  within : vec_len l.bytes ≤ l.max;
  taken : Consumes (g.R.Read.remaining l.fn.reader) (g.R.Read.remaining l.reader) l.bytes.items;
  sound : g.R.Read.has_failed l.reader ≡ g.R.Read.has_failed l.fn.reader;
}

abbrev pub decreases-loop-buffer : goal.decreases-loop-buffer
decreases-loop-buffer g l = l.max - vec_len l.bytes
