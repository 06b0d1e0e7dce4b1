use Rattle.console_states.proofs.Common.{length, arith, ◌≡◌, subst, state_of, under_of, get_or_read_under, rules}
use Rattle.console_states.proofs.Adding.{AddsOffersOf, adds-none, offers-all, offers-more}
use Rattle.console_states.proofs.offers.add_offers.Goals as goal

pub loop-key-init : goal.loop-key-init
loop-key-init c = search (rules, adds-none)

pub loop-key-preserved : goal.loop-key-preserved
loop-key-preserved c = search (rules, offers-more, get_or_read_under)

pub returns : goal.returns
returns c =
    let u = under_of c.args.maps.now in
    let s = state_of c.args.held.now in
    let keys = c.args.keys.now in
    let e : c.loop-key.key-index ≡ length keys = omega (arith, c.loop-key-test.false, c.loop-key.auto.key-index-end) in
    offers-all u s keys 128 c.args.accents.now.items c.loop-key.accents.items c.requires
    (subst (λ n. AddsOffersOf u s keys n c.args.accents.now.items c.loop-key.accents.items) e c.loop-key.invariant)
