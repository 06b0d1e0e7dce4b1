use Rattle.console_states.proofs.Common.{◌≡◌, length, arith, subst, sym, under_of, IsOfferedIn, rules, AreKeysOf}
use Rattle.console_states.proofs.Common.{DeadKey}
use Rattle.console_states.proofs.Adding.{adds-none, adds-place, enumerates}
use Rattle.console_states.proofs.offers.accents_of.Goals as goal

pub loop-place-init : goal.loop-place-init
loop-place-init c = search (rules, adds-none)

pub loop-place-preserved : goal.loop-place-preserved
loop-place-preserved c =
    adds-place (λ a s. IsOfferedIn (under_of c.args.maps.now) s a) c.args.met.now.entries c.loop-place.place
    c.entry.result c.loop-place.accents.items c.add_offers.new.accents.items c.entry.ensures
    c.loop-place.invariant c.in_ok-add_offers.ensures

pub add_offers-requires : goal.add_offers-requires
add_offers-requires c =
    subst (λ z. AreKeysOf DeadKey (under_of c.args.maps.now) z 128) (sym c.as_slice.ensures.value) c.in_ok-keys.ensures

pub returns : goal.returns
returns c =
    let u = under_of c.args.maps.now in
    let es = c.args.met.now.entries in
    let e : c.loop-place.place ≡ length es =
    omega (arith, c.loop-place-test.false, c.loop-place.auto.place-end, c.len-place-end.ensures.len) in
    enumerates _ c.loop-place.accents.items
    (rw (← e) c.loop-place.invariant)
