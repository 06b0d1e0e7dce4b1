-- the offers of the accents below the place
use Rattle.console_states.proofs.Common.{take, AreOffersOf}
use Rattle.console_states.proofs.offers.offers_by.Given as goal

abbrev pub invariant-loop-accent : goal.invariant-loop-accent
invariant-loop-accent l = AreOffersOf l.maps.first.now (take l.accent-index l.accents) l.offers.items
