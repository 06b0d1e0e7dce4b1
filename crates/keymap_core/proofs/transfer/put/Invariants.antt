use Rattle.keymap_core.proofs.Common.{◌≡◌, ◌≤◌, ◌-◌, length, take, Appends}
use Rattle.keymap_core.proofs.transfer.put.Given as goal

-- The first `done` bytes of the piece were taken, and the writer hasn't failed in this call.
abbrev pub invariant-loop-done : goal.invariant-loop-done
invariant-loop-done g l = record {
  within : l.done ≤ length l.piece;
  taken : Appends (g.W.Write.contents l.fn.writer) (g.W.Write.contents l.writer) (take l.done l.piece);
  sound : g.W.Write.has_failed l.writer ≡ g.W.Write.has_failed l.fn.writer;
}

abbrev pub decreases-loop-done : goal.decreases-loop-done
decreases-loop-done g l = length l.piece - l.done
