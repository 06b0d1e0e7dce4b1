use Rattle.keymap_tables.proofs.Common.{◌≡◌, ℕ, ◌+◌, ◌*◌, length, ◌++◌, List, take, Option, flat_map, count_bytes}
use Rattle.keymap_tables.proofs.Common.{count_size}
use Rattle.keymap_core.specs.Streams.{Gathers, size_of}
use Rattle.keymap_tables.proofs.Rows.{filled}
use Rattle.keymap_tables.proofs.write.push_table.Given as goal

-- The count and the rows so far were pushed.
abbrev pub invariant-loop-index : goal.invariant-loop-index
invariant-loop-index g l = record {
  pushed : (start : Option (List ℕ)) (text : List ℕ) → Gathers start (g.W.Write.contents l.fn.writer) l.fn.stream text
      → Gathers start (g.W.Write.contents l.writer) l.stream
      ((text ++ count_bytes l.layout (length (g.R.Row.rows l.map)))
      ++ flat_map (g.R.Row.image l.layout) (take l.index (filled g.R.Row.blank g.R.Row.MOST (g.R.Row.rows l.map))));
  count : size_of l.stream
      ≡ size_of l.fn.stream + (count_size l.layout + g.R.Row.size l.layout * l.index);
  sound : g.W.Write.has_failed l.writer ≡ g.W.Write.has_failed l.fn.writer;
}
