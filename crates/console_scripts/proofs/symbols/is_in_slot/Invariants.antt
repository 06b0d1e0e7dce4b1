-- no cell of the columns that were passed is the symbol
use Rattle.console_scripts.proofs.Common.{◌≡◌, ℕ, ◌<◌, cell_of, cell_at}
use Rattle.console_scripts.proofs.symbols.is_in_slot.Given as goal

abbrev pub invariant-loop-cell : goal.invariant-loop-cell
invariant-loop-cell l = (column : ℕ) → column < l.cell-index → cell_at l.map l.slot column ≡ cell_of l.symbol → ⊥
