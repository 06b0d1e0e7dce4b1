-- none of the offers below the place passes
use Rattle.console_states.proofs.Common.{◌≡◌, ◌<◌, ℕ, ◌&&◌, false, get_or, ◌==◌, Offer, is_selected}
use Rattle.console_states.proofs.sights.is_composed.Given as goal

abbrev pub invariant-loop-offer : goal.invariant-loop-offer
invariant-loop-offer l =
    (n : ℕ) → n < l.offer-index → (o : Offer) → get_or l.offers n o ≡ o
    → ((o.accent == l.accent) && is_selected l.map o.selections.items l.sight) ≡ false
