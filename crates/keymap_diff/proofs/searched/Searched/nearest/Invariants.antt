-- it is the nearest of those so far
use Rattle.keymap_diff.specs.Inner.Searches.{IsNearestBelow}
use Rattle.keymap_diff.proofs.searched.Searched.nearest.Given as goal

abbrev pub invariant-loop-accent : goal.invariant-loop-accent
invariant-loop-accent l = IsNearestBelow l.both.old.now l.both.new.now l.accent l.nearest
