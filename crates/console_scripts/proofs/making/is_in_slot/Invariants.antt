-- no cell of the columns that were passed types the character
use Rattle.console_scripts.proofs.Common.{ℕ, ◌<◌, cell_at}
use Rattle.console_scripts.specs.Inner.Courses.{IsMade}
use Rattle.console_scripts.proofs.making.is_in_slot.Given as goal

abbrev pub invariant-loop-cell : goal.invariant-loop-cell
invariant-loop-cell l =
    (column : ℕ) → column < l.cell-index → IsMade l.map l.accent l.character (cell_at l.map l.slot column) → ⊥
