use Rattle.keymap_text.proofs.Common.{◌≡◌, ℕ, ◌≤◌, ◌+◌, ◌*◌, ◌++◌, List, slice_index_or, Option, flat_map}
use Rattle.keymap_text.proofs.Common.{range_with_len, Gathers, size_of, blank, accent_line}
use Rattle.keymap_text.proofs.printer.print_accents.Given as goal

-- The lines of the accents so far were pushed, and the writer hasn't failed in this call.
abbrev pub invariant-loop-index : goal.invariant-loop-index
invariant-loop-index g l = record {
  pushed : (start : Option (List ℕ)) (text : List ℕ) → Gathers start (g.W.Write.contents l.fn.writer) l.fn.stream text
      → Gathers start (g.W.Write.contents l.writer) l.stream
      (text ++ flat_map (λ i. accent_line i (slice_index_or l.map.accents i blank)) (range_with_len 0 l.index));
  few : size_of l.stream ≤ size_of l.fn.stream + 4096 * l.index;
  sound : g.W.Write.has_failed l.writer ≡ g.W.Write.has_failed l.fn.writer;
}
