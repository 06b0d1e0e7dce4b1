use Rattle.kmap_c.proofs.Common.{◌≡◌, ◌≤◌, ◌*◌, flat_map, range_with_len, IsMap, MapValue, entry_at, image, key_line}
use Rattle.kmap_c.proofs.Common.{HasPut}
use Rattle.kmap_c.proofs.print.print_keys.Given as goal

-- The lines of the slots so far stand in front.
abbrev pub invariant-loop-slot : goal.invariant-loop-slot
invariant-loop-slot l = record {
  lines : (m : MapValue) → IsMap m → l.tables.bytes.now ≡ image m
      → HasPut (flat_map (λ s. key_line s (entry_at m s)) (range_with_len 0 l.slot)) l.fn.text l.end l.text;
  few : l.end ≤ 4096 * l.slot;
}
