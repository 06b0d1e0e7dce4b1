use Rattle.console_states.proofs.Common.{subst, Contains}
use Rattle.console_states.proofs.offers.offers_of.Goals as goal

pub offers_by-requires-clause-usable : goal.offers_by-requires-clause-usable
offers_by-requires-clause-usable c =
    λ a has.
    let (j, x, at, lt, is) = c.in_ok-accents.ensures.only a (subst (λ z. Contains z a) c.deref.ensures.value has) in
    is.0
