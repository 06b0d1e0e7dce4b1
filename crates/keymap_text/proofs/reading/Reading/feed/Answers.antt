use Rattle.keymap_text.proofs.Common.{arith}
use Rattle.keymap_text.proofs.Standing.{moves_piece, breaks_piece}
use Rattle.keymap_text.proofs.reading.Reading.feed.Goals as goal

pub returns-in-Err : goal.returns-in-Err
returns-in-Err c =
    breaks_piece c.args.self.now c.loop-at.self c.args.piece.now c.loop-at.at c.min-end.result c.in-Err.fault
    (omega arith) c.loop-at.invariant.moves c.in-Err.ensures

pub loop-at-preserved : goal.loop-at-preserved
loop-at-preserved c = record {
  inside = omega arith;
  moves = moves_piece c.args.self.now c.loop-at.self _ c.args.piece.now c.loop-at.at c.min-end.result (omega arith)
      c.loop-at.invariant.moves c.in-Ok.ensures;
}
