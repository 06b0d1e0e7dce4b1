-- the accents that the states below the place offer
use Rattle.console_states.proofs.Common.{[], IsOfferedIn, Adds, IsInSome, under_of}
use Rattle.console_states.proofs.offers.accents_of.Given as goal

abbrev pub invariant-loop-place : goal.invariant-loop-place
invariant-loop-place l =
    Adds (λ a. IsInSome l.met.entries l.place (λ s. IsOfferedIn (under_of l.maps) s a)) [] l.accents.items
