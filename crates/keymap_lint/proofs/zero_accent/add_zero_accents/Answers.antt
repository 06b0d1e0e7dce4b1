use Rattle.keymap_lint.proofs.Lists.{gathered_step}
use Rattle.keymap_lint.proofs.zero_accent.add_zero_accents.Goals as goal

pub loop-accent-preserved : goal.loop-accent-preserved
loop-accent-preserved c =
    gathered_step _ c.loop-accent.accent _ _ _ _ c.loop-accent.invariant c.zero_accent.ensures c.in_ok-add.ensures
