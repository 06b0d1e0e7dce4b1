use Rattle.console_states.proofs.Common.{alone, false≢true, subst, sym, under_of, AreComposed, AreLedTo, CanSelectEach}
use Rattle.console_states.proofs.sights.some_sights.Goals as goal

pub some_offers-requires-clause-led : goal.some_offers-requires-clause-led
some_offers-requires-clause-led c =
    subst (λ z. AreLedTo (under_of c.alone-maps.result) z) (sym c.deref-2.ensures.value) c.in_ok-states.ensures.led

pub some_offers-requires-clause-some : goal.some_offers-requires-clause-some
some_offers-requires-clause-some c =
    let map = c.alone-maps.ensures in
    subst (λ m. CanSelectEach m c.deref-3.result.now) (sym map.first)
    (subst (λ z. CanSelectEach c.args.map.now z) (sym c.deref-3.ensures.value)
    (c.in_ok-selections.ensures c.args.map.now
    (subst (λ z. AreLedTo (alone c.args.map.now) z) (sym c.deref.ensures.value)
    (subst (λ u. AreLedTo u c.in_ok-states.states.items) map.alone c.in_ok-states.ensures.led))))

pub returns : goal.returns
returns c =
    let map = c.alone-maps.ensures in
    record {
      selections = c.in_ok-selections.ensures c.args.map.now
          (subst (λ z. AreLedTo (alone c.args.map.now) z) (sym c.deref.ensures.value)
          (subst (λ u. AreLedTo u c.in_ok-states.states.items) map.alone c.in_ok-states.ensures.led));
      composing = subst (λ m. AreComposed m c.in_ok-offers.offers.items) map.first c.in_ok-offers.ensures;
      forgets = λ e. absurd (false≢true e);
    }
