use Rattle.keymap_tables.proofs.Common.{◌≡◌, ◌*◌, ◌<◌, ◌^◌, length, take, flat_map, cell_bytes, marks_of, number_size}
use Rattle.keymap_tables.proofs.slot.slot_image.Given as goal

-- The bytes and the marks of the cells so far.
abbrev pub invariant-loop-cell : goal.invariant-loop-cell
invariant-loop-cell l = record {
  eight : length l.cells ≡ 8;
  bytes : l.image.items ≡ flat_map (cell_bytes l.layout) (take l.cell-index l.cells);
  four_each : length l.image.items ≡ number_size l.layout * l.cell-index;
  marks : l.marks ≡ marks_of (take l.cell-index l.cells);
  small : l.marks < 2 ^ l.cell-index;
}
