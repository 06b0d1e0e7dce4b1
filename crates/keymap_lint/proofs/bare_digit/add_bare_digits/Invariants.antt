use Rattle.keymap_lint.proofs.Common.{◌≡◌, ◌++◌, take, flat_map, digit}
use Rattle.keymap_lint.proofs.bare_digit.add_bare_digits.Given as goal

-- what is said of the cells that were passed
abbrev pub invariant-loop-cell : goal.invariant-loop-cell
invariant-loop-cell l = l.found.items ≡ l.fn.found.items ++ flat_map (digit l.text) (take l.cell-index l.cells)
