-- what presses see in the states below the place was added
use Rattle.keymap_cover.specs.SeenSights.{Gains, has_seen}
use Rattle.keyboard_cover.specs.Inner.Sights.{SeesInMet}
use Rattle.keyboard_cover.proofs.sights.add_met.Given as goal

abbrev pub invariant-loop-place : goal.invariant-loop-place
invariant-loop-place l =
    Gains (SeesInMet l.presses l.map l.pending l.met.entries l.place) (has_seen l.fn.can) (has_seen l.can)
