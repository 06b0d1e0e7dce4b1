use Rattle.keymap_lint.proofs.Common.{◌≡◌, ◌++◌, gathered}
use Rattle.keymap_lint.specs.Shifted.{exchanged}
use Rattle.keymap_lint.proofs.exchanged.add_exchanged.Given as goal

-- what is said of the slots so far
abbrev pub invariant-loop-number : goal.invariant-loop-number
invariant-loop-number l = l.found.items ≡ l.fn.found.items ++ gathered (exchanged l.text) l.number
