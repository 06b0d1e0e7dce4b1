use Rattle.keymap_lint.proofs.Lists.{gathered_step}
use Rattle.keymap_lint.proofs.directives.add_words_in.Goals as goal

pub loop-k-preserved : goal.loop-k-preserved
loop-k-preserved c =
    gathered_step _ c.loop-k.k _ _ _ _ c.loop-k.invariant c.word_at.ensures c.in_ok-add.ensures
