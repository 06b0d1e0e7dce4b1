-- what presses see while an accent below this one is pending was added
use Rattle.keymap_cover.specs.SeenSights.{Gains, has_seen}
use Rattle.keyboard_cover.specs.Inner.Sights.{SeesBehindSome}
use Rattle.keyboard_cover.proofs.sights.add_accents.Given as goal

abbrev pub invariant-loop-accent : goal.invariant-loop-accent
invariant-loop-accent l =
    Gains (SeesBehindSome l.presses l.map l.accent) (has_seen l.fn.can) (has_seen l.can)
