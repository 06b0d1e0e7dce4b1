use Rattle.keymap_text.proofs.Common.{◌≡◌, ◌≤◌, ◌+◌, ◌*◌, ◌++◌, length, take, flat_map, slot_text, cell_text}
use Rattle.keymap_text.specs.Printed.{word}
use Rattle.keymap_text.proofs.layout.slot_words.Given as goal

abbrev pub invariant-loop-cell : goal.invariant-loop-cell
invariant-loop-cell l = record {
  text : l.words.items ≡ slot_text l.slot ++ flat_map (λ c. word (cell_text c)) (take l.cell-index l.cell-items);
  size : length l.words.items ≤ 3 + 9 * l.cell-index;
}
