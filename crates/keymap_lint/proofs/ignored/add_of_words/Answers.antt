use Rattle.keymap_lint.proofs.Lists.{gathered_step}
use Rattle.keymap_lint.proofs.ignored.add_of_words.Goals as goal

pub loop-number-preserved : goal.loop-number-preserved
loop-number-preserved c =
    gathered_step _ c.loop-number.number _ _ _ _ c.loop-number.invariant c.of_number.ensures c.in_ok-add.ensures
