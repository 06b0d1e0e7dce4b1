-- the accents of the keys below the place were added
use Rattle.console_states.proofs.Common.{state_of, under_of}
use Rattle.console_states.proofs.Adding.{AddsOffersOf}
use Rattle.console_states.proofs.offers.add_offers.Given as goal

abbrev pub invariant-loop-key : goal.invariant-loop-key
invariant-loop-key l =
    AddsOffersOf (under_of l.maps) (state_of l.held) l.keys l.key-index l.fn.accents.items l.accents.items
