use Rattle.kmap_c.proofs.Common.{◌≡◌, ℕ, ◌≤◌, ◌+◌, ◌*◌, ◌++◌, List, flat_map, range_with_len, IsMap, MapValue}
use Rattle.kmap_c.proofs.Common.{accent_or_blank, image, accent_line, HasPut}
use Rattle.kmap_c.proofs.print.print_accents.Given as goal

-- The lines of the accents so far stand behind the bytes.
abbrev pub invariant-loop-index : goal.invariant-loop-index
invariant-loop-index l = record {
  lines : (m : MapValue) (bytes old : List ℕ) → IsMap m → l.tables.bytes.now ≡ image m
      → HasPut bytes old l.fn.at l.fn.text
      → HasPut (bytes ++ flat_map (λ i. accent_line i (accent_or_blank m i)) (range_with_len 0 l.index)) old l.end
      l.text;
  few : l.end ≤ l.fn.at + 4096 * l.index;
}
