use Rattle.keymap_text.proofs.Common.{◌≡◌, ◌≤◌, ◌+◌, ◌*◌, ◌++◌, length, take, flat_map, slot_text, column, cell_text}
use Rattle.keymap_text.proofs.layout.key_line.Given as goal

abbrev pub invariant-loop-cell : goal.invariant-loop-cell
invariant-loop-cell l = record {
  text : l.line.items ≡ slot_text l.slot ++ flat_map (λ c. column (cell_text c)) (take l.cell-index l.cell-items);
  size : length l.line.items ≤ 3 + 9 * l.cell-index;
}
