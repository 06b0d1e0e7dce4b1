use Rattle.console_states.proofs.Common.{take, subst, sym, get_or, take_more, AreOffersOf}
use Rattle.console_states.proofs.Offering.{offers-more}
use Rattle.console_states.proofs.offers.offers_by.Goals as goal

pub loop-accent-preserved : goal.loop-accent-preserved
loop-accent-preserved c =
    let m = c.args.maps.now.first.now in
    let accents = c.args.accents.now in
    let n = c.loop-accent.accent-index in
    subst (λ z. AreOffersOf m z c.push_offer.new.offers.items) (sym (take_more accents n _ c.loop-accent-test.true))
    (offers-more m (take n accents) c.loop-accent.offers.items c.push_offer.new.offers.items
    (record { accent = get_or accents n 0; selections = c.in_ok-selections.selections }) c.loop-accent.invariant
    c.in_ok-push_offer.ensures c.in_ok-selections.ensures)
