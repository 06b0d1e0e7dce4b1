-- the cells of the columns that were passed show nothing
use Rattle.std.proofs.Common.{◌<◌, ℕ}
use Rattle.keymap_core.specs.Maps.{cell_at}
use Rattle.keymap_diff.specs.Inner.Showing.{IsClear}
use Rattle.keymap_diff.proofs.showing.Both.can_show_in_slot.Given as goal

abbrev pub invariant-loop-column : goal.invariant-loop-column
invariant-loop-column l =
    (column : ℕ) → column < l.column
    → IsClear l.self.old.now l.self.new.now l.minded (cell_at l.self.old.now l.slot column)
    (cell_at l.self.new.now l.slot column)
