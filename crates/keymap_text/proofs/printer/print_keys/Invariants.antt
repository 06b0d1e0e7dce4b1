use Rattle.keymap_text.proofs.Common.{◌≡◌, ℕ, ◌≤◌, ◌+◌, ◌*◌, ◌++◌, List, Option, flat_map, range_with_len, Gathers}
use Rattle.keymap_text.proofs.Common.{size_of, entry_at, key_line}
use Rattle.keymap_text.proofs.printer.print_keys.Given as goal

-- The lines of the slots so far were pushed, and the writer hasn't failed in this call.
abbrev pub invariant-loop-slot : goal.invariant-loop-slot
invariant-loop-slot g l = record {
  pushed : (start : Option (List ℕ)) (text : List ℕ) → Gathers start (g.W.Write.contents l.fn.writer) l.fn.stream text
      → Gathers start (g.W.Write.contents l.writer) l.stream
      (text ++ flat_map (λ i. key_line i (entry_at l.map i)) (range_with_len 0 l.slot));
  few : size_of l.stream ≤ size_of l.fn.stream + 4096 * l.slot;
  sound : g.W.Write.has_failed l.writer ≡ g.W.Write.has_failed l.fn.writer;
}
