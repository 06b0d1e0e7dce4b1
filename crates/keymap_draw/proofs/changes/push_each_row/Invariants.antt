use Rattle.keymap_draw.proofs.Common.{◌≡◌, ◌++◌, drop, numbered}
use Rattle.keymap_draw.specs.Changes.{listed_row}
use Rattle.keymap_draw.proofs.changes.push_each_row.Given as goal

abbrev pub invariant-loop-i : goal.invariant-loop-i
invariant-loop-i l =
    l.sheet ++ numbered (listed_row l.y) l.i (drop l.i l.rows)
    ≡ l.fn.sheet ++ numbered (listed_row l.y) 0 l.rows
