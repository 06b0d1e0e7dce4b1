use Rattle.console_states.proofs.Common.{refl, sym, state_of, under_of, rules}
use Rattle.console_states.proofs.Adding.{adds-none, offer-added, unusable-none}
use Rattle.console_states.proofs.offers.add_offer.Goals as goal

pub returns-in_ok-add_accent : goal.returns-in_ok-add_accent
returns-in_ok-add_accent c =
    let m = c.args.maps.now.first.now in
    offer-added (under_of c.args.maps.now) (state_of c.args.held.now) c.args.key c.in-Some.accent
    c.args.accents.now.items c.add_accent.new.accents.items (sym (c.if-is_usable.ensures m refl)) c.in-Some.ensures
    c.in_ok-add_accent.ensures

pub returns-else-is_usable : goal.returns-else-is_usable
returns-else-is_usable c = search (rules, adds-none, unusable-none)

pub returns-in_default : goal.returns-in_default
returns-in_default c = search (rules, adds-none)
