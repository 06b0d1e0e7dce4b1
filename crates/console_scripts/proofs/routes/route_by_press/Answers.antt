use Rattle.std.proofs.Common.{rules}
use Rattle.console_scripts.proofs.Common.{none_unless, below_more, state_of, under_of}
use Rattle.console_scripts.proofs.RoutesHome.{press-astray}
use Rattle.console_scripts.proofs.routes.route_by_press.Goals as goal

pub returns-in-Some-clause-home : goal.returns-in-Some-clause-home
returns-in-Some-clause-home c = search rules

pub loop-code-preserved : goal.loop-code-preserved
loop-code-preserved c =
    let s = state_of c.args.held.now in
    let u = under_of c.args.maps.now in
    let routes = c.args.routes.now.entries in
    below_more _ _ c.loop-code.invariant
    (rw (← c.key_with.ensures) (press-astray u routes s c.key_with.result c.pressed.result c.pressed.ensures.leads
    (c.in_ok-route.ensures.astray (none_unless _ c.in_default.not-Some))))
