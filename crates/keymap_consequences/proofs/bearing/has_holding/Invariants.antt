-- no cell before this one is a modifier or lock
use Rattle.keymap_consequences.proofs.Common.{ℕ, ◌<◌, ◌≡◌}
use Rattle.std.proofs.Common.{get_or}
use Rattle.keymap_core.specs.declared.entry.Cell.{Cell}
use Rattle.keymap_consequences.specs.Inner.Keys.{HasNoHolding}
use Rattle.keymap_consequences.proofs.bearing.has_holding.Given as goal

abbrev pub invariant-loop-cell : goal.invariant-loop-cell
invariant-loop-cell l = (i : ℕ) (d : Cell) → i < l.cell-index → HasNoHolding (get_or l.cell-items i d)
