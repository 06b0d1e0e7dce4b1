use Rattle.keymap_draw.proofs.Common.{◌≡◌, ◌++◌, drop, flat_map}
use Rattle.keymap_draw.specs.Changes.{listed_rows}
use Rattle.keymap_draw.proofs.changes.push_each_listed.Given as goal

abbrev pub invariant-loop-line : goal.invariant-loop-line
invariant-loop-line l =
    l.rows.items ++ flat_map (listed_rows l.drawing) (drop l.line-index l.lines)
    ≡ l.fn.rows.items ++ flat_map (listed_rows l.drawing) l.lines
