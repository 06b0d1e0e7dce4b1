use Rattle.keymap_text.proofs.Common.{◌≡◌, ◌≤◌, ◌-◌, length, drop, MapValue, at, Advances}
use Rattle.keymap_text.proofs.Cells.{cell_place}
use Rattle.keymap_text.specs.Inner.Grammar as spec
use Rattle.keymap_text.proofs.scanner.take_cells_from.Given as goal

abbrev pub invariant-loop-index : goal.invariant-loop-index
invariant-loop-index l = record {
  inside : length l.left ≤ length l.rest;
  index : l.index ≤ 8;
  left : l.left ≡ drop (length l.rest - length l.left) l.rest;
  taken : (m : MapValue) → Advances (at m (spec.CellAt l.slot l.first l.fn.grammar.entry))
      (at m (cell_place l.slot l.index l.grammar.entry)) l.rest (length l.rest - length l.left);
}

abbrev pub decreases-loop-index : goal.decreases-loop-index
decreases-loop-index l = 8 - l.index
