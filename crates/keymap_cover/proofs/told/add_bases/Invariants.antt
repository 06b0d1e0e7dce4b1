-- the pairs with the bases before the place are there
use Rattle.keymap_cover.proofs.Common.{◌≡◌, ◌++◌, map, take, base_pair}
use Rattle.keymap_cover.proofs.told.add_bases.Given as goal

abbrev pub invariant-loop-pair : goal.invariant-loop-pair
invariant-loop-pair l =
    l.sights.items ≡ l.fn.sights.items ++ map (base_pair l.accent) (take l.pair-index l.pairs)
