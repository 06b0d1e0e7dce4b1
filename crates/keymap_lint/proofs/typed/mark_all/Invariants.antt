use Rattle.keymap_lint.specs.Ways.{AreSure}
use Rattle.keymap_lint.proofs.typed.mark_all.Given as goal

abbrev pub invariant-loop-code : goal.invariant-loop-code
invariant-loop-code l = AreSure l.map l.sure
