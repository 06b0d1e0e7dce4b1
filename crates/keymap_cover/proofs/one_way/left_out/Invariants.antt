-- what is left out before the place is there
use Rattle.keymap_cover.proofs.Common.{◌≡◌, take, filter}
use Rattle.keymap_cover.specs.Inner.OneWay.{is_left}
use Rattle.keymap_cover.proofs.one_way.left_out.Given as goal

abbrev pub invariant-loop-sight : goal.invariant-loop-sight
invariant-loop-sight l = l.left.items ≡ filter (is_left l.map l.seen l.sights) (take l.sight-index l.sight-items)
