use Rattle.keymap_draw.proofs.Common.{arith}
use Rattle.keymap_draw.proofs.Loops.{numbered_at, numbered_end}
use Rattle.keymap_draw.proofs.half.push_each_other.Goals as goal

pub loop-i-preserved : goal.loop-i-preserved
loop-i-preserved c =
    numbered_at _ _ c.loop-i.i _ _ _ _ (omega arith) (rw c.slot.ensures at c.in_ok-sheet.ensures) c.loop-i.invariant

pub returns : goal.returns
returns c = numbered_end _ _ c.loop-i.i _ _ (omega arith) c.loop-i.invariant
