use Rattle.keymap_draw.proofs.Common.{◌≡◌, ◌++◌, [], drop, is_seen, list_all, true}
use Rattle.keymap_draw.specs.Changes.{rows_behind}
use Rattle.keymap_draw.proofs.changes.push_rows.Given as goal

abbrev pub invariant-loop-i : goal.invariant-loop-i
invariant-loop-i l = record {
  rows : l.rows.items ++ rows_behind l.row.items (drop l.i l.line) ≡ l.fn.rows.items ++ rows_behind [] l.line;
  seen : list_all is_seen l.row.items ≡ true;
}
