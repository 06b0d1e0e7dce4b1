use Rattle.keymap_lint.proofs.Common.{◌≡◌, ◌++◌, take, flat_map}
use Rattle.keymap_lint.specs.Octal.{octal_cell}
use Rattle.keymap_lint.proofs.octal_like.add_cells.Given as goal

-- what is said of the cells that were passed
abbrev pub invariant-loop-cell : goal.invariant-loop-cell
invariant-loop-cell l = l.found.items ≡ l.fn.found.items ++ flat_map (octal_cell l.text) (take l.cell-index l.cells)
