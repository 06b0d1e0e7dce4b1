-- the offers of the accents below the place are composed
use Rattle.console_states.proofs.Common.{AreComposed}
use Rattle.console_states.proofs.offers.some_offers.Given as goal

abbrev pub invariant-loop-accent : goal.invariant-loop-accent
invariant-loop-accent l = AreComposed l.maps.first.now l.offers.items
