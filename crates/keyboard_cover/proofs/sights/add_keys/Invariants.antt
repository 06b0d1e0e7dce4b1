-- what presses of the keys below the code see was added
use Rattle.keymap_cover.specs.SeenSights.{Gains, has_seen}
use Rattle.keyboard_cover.specs.Inner.Sights.{SeesUnder}
use Rattle.keyboard_cover.proofs.sights.add_keys.Given as goal

abbrev pub invariant-loop-code : goal.invariant-loop-code
invariant-loop-code l =
    Gains (SeesUnder l.presses l.map l.pending l.code l.selection) (has_seen l.fn.can) (has_seen l.can)
