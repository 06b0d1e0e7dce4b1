use Rattle.console_scripts.proofs.Common.{arith, subst, IfSome, LeadsHome, under_of, state_of, rules}
use Rattle.console_scripts.proofs.RoutesHome.{settled-new, settled-some, settled-none, settled-all}
use Rattle.console_scripts.proofs.routes.settle.Goals.{in-Some+in_ok-add_route-in-Some, in-None+in_ok-push-in-None}
use Rattle.console_scripts.proofs.routes.settle.Goals as goal

pub loop-held-init : goal.loop-held-init
loop-held-init c = search (rules, settled-new)

pub loop-held-preserved : goal.loop-held-preserved
loop-held-preserved c =
    let u = under_of c.args.maps.now in
    let old = c.args.routes.now.entries in
    let states = c.args.states.now in
    let n = c.loop-held.held-index in
    let routes = c.loop-held.routes.entries in
    let rest = c.loop-held.rest.items in
    let x = c.held-item.result in
    elim c.match-branch-2.branch [
      | in-Some+in_ok-add_route-in-Some w ↦
          rw (w.routes-is, w.rest-is)
          (settled-some u old states n routes w.add_route.new.routes.entries rest x c.loop-held.invariant c.held-item.is
          c.loop-held-test.true
          (w.in_ok-add_route-in-Some.ensures.home u c.loop-held.invariant.home
          (subst (λ o. IfSome o (λ r. LeadsHome u (state_of x) r.moves.items)) w.in-Some.is
          (c.in_ok-route.ensures.home c.loop-held.invariant.home)))
          w.in_ok-add_route-in-Some.ensures.added w.in_ok-add_route-in-Some.ensures.kept)
      | in-None+in_ok-push-in-None w ↦
          rw (w.routes-is, w.rest-is)
          (settled-none u old states n routes rest w.push.new.self.items x c.loop-held.invariant c.held-item.is
          c.loop-held-test.true w.in_ok-push-in-None.ensures.items
          (λ loads. c.in_ok-route.ensures.astray w.in-None.is loads))
    ]

pub returns-clause-fewer : goal.returns-clause-fewer
returns-clause-fewer c = omega (arith, c.loop-held.invariant.fewer, c.loop-held.auto.held-index-end)

pub returns-clause-astray : goal.returns-clause-astray
returns-clause-astray c =
    (settled-all (under_of c.args.maps.now) c.args.routes.now.entries c.args.states.now c.loop-held.held-index
    c.loop-held.routes.entries c.loop-held.rest.items c.loop-held.invariant
    (omega (arith, c.loop-held-test.false)) (omega (arith, c.loop-held.auto.held-index-end))).0

pub returns-clause-all : goal.returns-clause-all
returns-clause-all c =
    (settled-all (under_of c.args.maps.now) c.args.routes.now.entries c.args.states.now c.loop-held.held-index
    c.loop-held.routes.entries c.loop-held.rest.items c.loop-held.invariant
    (omega (arith, c.loop-held-test.false)) (omega (arith, c.loop-held.auto.held-index-end))).1
