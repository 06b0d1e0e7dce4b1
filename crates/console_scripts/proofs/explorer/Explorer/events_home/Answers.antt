use Rattle.console_scripts.proofs.Common.{ap, reverse, subst, sym, alone, LeadsHome, HasRoute, but_scroll}
use Rattle.console_scripts.proofs.Common.{free_with, IsWayHome}
use Rattle.console_scripts.proofs.Visitable.{no-way, way-home}
use Rattle.console_scripts.proofs.explorer.Explorer.events_home.Goals as goal

pub come_home-requires : goal.come_home-requires
come_home-requires g c = c.has_route.ensures.has c.if-not-has_route.false

pub returns-then-not-has_route : goal.returns-then-not-has_route
returns-then-not-has_route g c =
    let e = c.self.inside.explored in
    let s = free_with (but_scroll (g.T.Translator.shows_locked c.args.console.now)) in
    subst (λ p. IsWayHome p.map s (reverse c.new-events.result.items)) c.self.view_is
    (no-way e c.self.invariant s
    (λ has. c.has_route.ensures.none c.if-not-has_route.true
    (subst (λ t. HasRoute e.routes.entries t) (sym c.free-held.ensures.value) has))
    (reverse c.new-events.result.items) (ap reverse c.new-events.ensures.items))

pub returns : goal.returns
returns g c =
    let e = c.self.inside.explored in
    let m = e.maps.first.now in
    let s = free_with (but_scroll (g.T.Translator.shows_locked c.args.console.now)) in
    let (moves, home, added) = c.in_ok-come_home.ensures (alone m) c.self.invariant.0.home in
    subst (λ p. IsWayHome p.map s (reverse c.come_home.new.events.items)) c.self.view_is
    (way-home m s moves (subst (λ t. LeadsHome (alone m) t moves) c.free-held.ensures.value home)
    c.new-events.result.items (reverse c.come_home.new.events.items) c.new-events.ensures.items added)
