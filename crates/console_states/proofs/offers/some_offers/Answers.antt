use Rattle.console_states.proofs.Common.{get_or, get_or_default, subst, Contains, state_of, under_of, IsLedTo}
use Rattle.console_states.proofs.Common.{OffersUnlocked}
use Rattle.std.proofs.lemmas.List.Elements.{All-contains}
use Rattle.console_states.proofs.Offering.{composed-push, composing-some}
use Rattle.console_states.proofs.offers.some_offers.Goals as goal

pub loop-accent-preserved : goal.loop-accent-preserved
loop-accent-preserved c =
    let m = c.args.maps.now.first.now in
    let states = c.args.states.now in
    let n = c.loop-accent.accent-index in
    let among = c.deref-accent-items.result.now in
    let accent = get_or among n 0 in
    let has : Contains c.in_ok-accents.accents.items accent =
    subst (λ z. Contains z accent) c.deref-accent-items.ensures.value
    (n, c.loop-accent-test.true, get_or_default among n accent 0 c.loop-accent-test.true) in
    let (usable, (h, is, offers)) = c.in_ok-accents.ensures accent has in
    let led = All-contains (λ h. IsLedTo (under_of c.args.maps.now) (state_of h)) states h c.requires.led is in
    composed-push m c.loop-accent.offers.items c.push_offer.new.offers.items
    (record { accent = accent; selections = c.in_ok-selections.selections }) c.loop-accent.invariant
    c.in_ok-push_offer.ensures
    (λ y there. composing-some m accent (state_of h) y (subst (λ u. IsLedTo u (state_of h)) c.requires.alone led) usable
    (subst (λ u. OffersUnlocked u (state_of h) accent) c.requires.alone offers)
    (c.requires.some y (subst (λ z. Contains z y) c.in_ok-selections.ensures there)))
