use Rattle.keymap_diff.proofs.Common.{arith}
use Rattle.keymap_diff.proofs.Clearing.{nearest-all, nearest-first}
use Rattle.keymap_diff.proofs.searched.Searched.nearest.Goals as goal

pub loop-accent-init : goal.loop-accent-init
loop-accent-init c =
    nearest-first _ _ c.in_ok-nearest.nearest c.in_ok-nearest.ensures.searched c.in_ok-nearest.ensures.minded

pub returns : goal.returns
returns c =
    nearest-all _ _ c.loop-accent.accent c.loop-accent.nearest
    (omega (arith, c.loop-accent-test.false, c.n_accs-accent-end.ensures.value)) c.loop-accent.invariant
