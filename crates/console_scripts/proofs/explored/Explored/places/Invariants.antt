-- the places that taps look up at the states before this one were marked
use Rattle.console_scripts.specs.Inner.Places.{IsGathered}
use Rattle.console_scripts.proofs.explored.Explored.places.Given as goal

abbrev pub invariant-loop-place : goal.invariant-loop-place
invariant-loop-place l = IsGathered l.self l.is_plain l.place l.marks l.known.items
