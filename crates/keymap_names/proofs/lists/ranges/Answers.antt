use Rattle.keymap_names.specs.Lists.{run_text}
use Rattle.keymap_names.proofs.Pieces.{piece_more}
use Rattle.keymap_names.proofs.lists.ranges.Goals as goal

pub loop-i-preserved : goal.loop-i-preserved
loop-i-preserved c =
    piece_more (run_text c.args.numbers.now) c.loop-i.i _ _ c.loop-i.invariant c.in_ok-push_run.ensures
