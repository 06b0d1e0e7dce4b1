use Rattle.console_scripts.proofs.Common.{refl, subst, IfSome, LeadsHome, state_of, under_of}
use Rattle.console_scripts.proofs.RoutesHome.{astray-when}
use Rattle.console_scripts.proofs.routes.route_from.Goals as goal

pub returns-in-Some-clause-home : goal.returns-in-Some-clause-home
returns-in-Some-clause-home c =
    λ all.
    let u = under_of c.args.maps.now in
    subst (λ o. IfSome o (λ x. LeadsHome u (state_of c.args.held.now) x.moves.items)) c.in-Some.is
    (c.in_ok-route.ensures.home u all)

pub returns-in-None-clause-astray : goal.returns-in-None-clause-astray
returns-in-None-clause-astray c =
    astray-when (under_of c.args.maps.now) c.args.routes.now.entries (state_of c.args.held.now)
    c.route_by_press.result (c.if-is_home.ensures.away refl)
    (c.in_ok-route.ensures.astray c.in-None.is) c.route_by_press.ensures.astray
