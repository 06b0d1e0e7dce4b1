-- what can be seen of the sights before the place was seen
use Rattle.keymap_cover.proofs.Common.{◌≡◌, ◌<◌, ℕ, true, get_or, Sight, CanVisit, has_seen}
use Rattle.keymap_cover.proofs.Common.{Contains, GoesUnderWay}
use Rattle.keymap_cover.specs.Inner.Scripts.{ShowsNew}
use Rattle.keymap_cover.proofs.cover.show_all.Given as goal

abbrev pub invariant-loop-sight : goal.invariant-loop-sight
invariant-loop-sight g l =
    GoesUnderWay l.map g.T.Translator.stands l.fn.script l.script (((n : ℕ) (x : Sight)
    → n < l.sight-index → get_or l.told n x ≡ x → CanVisit l.map x → has_seen l.script.seen x ≡ true)
    × ShowsNew (Contains l.told) l.fn.script l.script)
