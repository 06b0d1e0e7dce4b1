use Rattle.keymap_tables.proofs.Common.{◌≡◌, ◌-◌, ◌*◌, ◌/◌, ◌^◌, take, length, flat_map, All, IsCell, CellFits}
use Rattle.keymap_tables.proofs.Common.{cell_bytes, marks_of, number_size, slot_fault, HasNoFault}
use Rattle.keymap_tables.proofs.read_slot.read_cells.Given as goal

-- The cells read so far have the bytes and marks so far, and no fault stands there.
abbrev pub invariant-loop-column : goal.invariant-loop-column
invariant-loop-column l = record {
  known : All IsCell (take l.column l.cells);
  fits : All (CellFits l.layout) (take l.column l.cells);
  whole : length l.cells ≡ 8;
  bytes : flat_map (cell_bytes l.layout) (take l.column l.cells) ≡ take (number_size l.layout * l.column) l.bytes;
  marks : marks_of (take l.column l.cells) ≡ l.marks / 2 ^ (8 - l.column);
  sound : HasNoFault (slot_fault l.layout l.bytes) (number_size l.layout * l.column);
}
