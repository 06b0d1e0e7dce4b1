-- no cell of the columns that were passed is of the kind
use Rattle.console_states.proofs.Common.{ℕ, ◌<◌, cell_at, IsOther}
use Rattle.console_states.proofs.key_lists.has_in_slot.Given as goal

abbrev pub invariant-loop-cell : goal.invariant-loop-cell
invariant-loop-cell l = (column : ℕ) → column < l.cell-index → IsOther l.kind (cell_at l.map l.slot column)
