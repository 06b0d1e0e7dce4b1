use Rattle.keymap_tables.proofs.Common.{◌*◌, [], MapValue, used_fault, HasNoFault}
use Rattle.keymap_tables.proofs.Rows.{Reads}
use Rattle.keymap_tables.proofs.content.read_rows.Given as goal

-- The bytes so far are those of so many rows, which were put into the map, and no fault stands there.
abbrev pub invariant-loop-index : goal.invariant-loop-index
invariant-loop-index g l = record {
  rows : (so_far : Reads (g.R.Row.image l.layout) (g.R.Row.Is l.layout) (g.R.Row.size l.layout) l.bytes l.index)
      × ((m : MapValue) → g.D.Definitions.shows l.fn.into (g.R.Row.put m [])
      → g.D.Definitions.shows l.into (g.R.Row.put m so_far.0));
  sound : HasNoFault (used_fault (g.R.Row.faults l.layout) (g.R.Row.size l.layout) l.count l.bytes)
      (g.R.Row.size l.layout * l.index);
}
