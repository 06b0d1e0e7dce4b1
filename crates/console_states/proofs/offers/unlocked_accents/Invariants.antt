-- the accents of the states below the place
use Rattle.console_states.proofs.Common.{under_of}
use Rattle.console_states.specs.Inner.Adding.{AreUnlocked}
use Rattle.console_states.proofs.offers.unlocked_accents.Given as goal

abbrev pub invariant-loop-held : goal.invariant-loop-held
invariant-loop-held l = AreUnlocked (under_of l.maps) l.states l.accents.items
