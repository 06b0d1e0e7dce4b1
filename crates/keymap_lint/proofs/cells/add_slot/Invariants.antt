use Rattle.keymap_lint.proofs.Common.{◌≡◌, ◌++◌, map, range_with_len, cell_in}
use Rattle.keymap_lint.proofs.cells.add_slot.Given as goal

-- the cells so far
abbrev pub invariant-loop-column : goal.invariant-loop-column
invariant-loop-column l =
    l.cells.items ≡ l.fn.cells.items ++ map (cell_in l.text l.slot l.first) (range_with_len 0 l.column)
