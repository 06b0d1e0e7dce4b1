-- what wasn't seen before the place is there
use Rattle.keymap_cover.proofs.Common.{◌≡◌, not, take, filter, has_seen}
use Rattle.keymap_cover.proofs.one_way.unseen.Given as goal

abbrev pub invariant-loop-sight : goal.invariant-loop-sight
invariant-loop-sight l = l.left.items ≡ filter (λ x. not (has_seen l.seen x)) (take l.sight-index l.sights)
