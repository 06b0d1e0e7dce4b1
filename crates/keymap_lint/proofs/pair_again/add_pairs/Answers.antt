use Rattle.keymap_lint.proofs.Lists.{gathered_step}
use Rattle.keymap_lint.proofs.pair_again.add_pairs.Goals as goal

pub loop-place-preserved : goal.loop-place-preserved
loop-place-preserved c =
    gathered_step _ c.loop-place.place _ _ _ _ c.loop-place.invariant c.pair_again.ensures c.in_ok-add.ensures
