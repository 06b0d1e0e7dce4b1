use Rattle.std.proofs.Common.{rules}
use Rattle.console_states.proofs.Common.{refl, subst, sym, IsOfferedUnlocked, false, AreSelectionsOf}
use Rattle.console_states.proofs.Offering.{composing-all, composing-pending}
use Rattle.console_states.proofs.Results.{ok-then}
use Rattle.console_states.proofs.offers.selections_behind.Goals as goal

pub returns-then-is_offered_unlocked : goal.returns-then-is_offered_unlocked
returns-then-is_offered_unlocked c =
    let m = c.args.maps.now.first.now in
    let met = c.args.met.now.entries in
    ok-then c.copied.result
    (λ v same.
    composing-all m c.args.accent met v.items c.requires.met.1 c.requires.usable
    (subst (λ u. IsOfferedUnlocked u met c.args.accent) c.requires.met.0 (c.if-is_offered_unlocked.ensures refl))
    (subst (λ z. AreSelectionsOf false met z) (sym same) c.requires.all)) c.copied.ensures

pub returns-in_ok-states : goal.returns-in_ok-states
returns-in_ok-states c = search (rules, ok-then, composing-pending)
