-- the sights before the place are counted
use Rattle.keymap_cover.proofs.Common.{◌≡◌, take}
use Rattle.keymap_cover.specs.Covering.{counts_of}
use Rattle.keymap_cover.specs.Verdicts.{verdict_in}
use Rattle.keymap_cover.proofs.verdicts.Verdicts.count.Given as goal

abbrev pub invariant-loop-sight : goal.invariant-loop-sight
invariant-loop-sight l = l.counts ≡ counts_of (verdict_in l.map l.self) (take l.sight-index l.sights)
