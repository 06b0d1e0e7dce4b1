use Rattle.std.proofs.Common.{rules}
use Rattle.keymap_cover.proofs.Common.{pairs_at}
use Rattle.keymap_cover.proofs.Telling.{piece-behind}
use Rattle.keymap_cover.proofs.told.add_all_pairs.Goals as goal

pub loop-index-preserved : goal.loop-index-preserved
loop-index-preserved c =
    piece-behind (pairs_at c.args.map.now) c.loop-index.index _ _ _ c.loop-index.invariant c.in_ok-add_pairs.ensures

pub returns : goal.returns
returns c = search rules
