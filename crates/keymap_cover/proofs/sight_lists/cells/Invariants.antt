-- the cells below the place are there
use Rattle.keymap_cover.proofs.Common.{◌≡◌, map, range_with_len, cell_at_place}
use Rattle.keymap_cover.proofs.sight_lists.cells.Given as goal

abbrev pub invariant-loop-place : goal.invariant-loop-place
invariant-loop-place l = l.sights.items ≡ map cell_at_place (range_with_len 0 l.place)
