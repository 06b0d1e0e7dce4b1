-- the pairs of the accents below the index are there
use Rattle.keymap_cover.proofs.Common.{◌≡◌, ◌++◌, flat_map, range_with_len, pairs_at}
use Rattle.keymap_cover.proofs.told.add_all_pairs.Given as goal

abbrev pub invariant-loop-index : goal.invariant-loop-index
invariant-loop-index l =
    l.sights.items ≡ l.fn.sights.items ++ flat_map (pairs_at l.map) (range_with_len 0 l.index)
