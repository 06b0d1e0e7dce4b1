use Rattle.console_scripts.proofs.Common.{state_of}
use Rattle.console_scripts.proofs.Choosing.{no-route}
use Rattle.console_scripts.proofs.Exploring.{returns-origin}
use Rattle.console_scripts.proofs.typing.Scribe.go_home.Goals as goal

pub see-requires-clause-origin : goal.see-requires-clause-origin
see-requires-clause-origin c = returns-origin c.args.map.now (state_of c.args.from.now) c.requires.can_return

pub go_home-requires : goal.go_home-requires
go_home-requires c = (c.explored_from.ensures c.args.map.now c.in_ok-see.ensures.explorations).0

pub returns-then-not-branch-clause-error : goal.returns-then-not-branch-clause-error
returns-then-not-branch-clause-error c =
    let m = c.args.map.now in
    no-route m (state_of c.args.from.now) c.explored_from.result.now
    (c.explored_from.ensures m c.in_ok-see.ensures.explorations) c.requires.can_return
    (c.in_ok-go_home.ensures.1 c.if-not-branch.true)

pub returns-clause-home : goal.returns-clause-home
returns-clause-home c =
    let v = c.explored_from.ensures c.args.map.now c.in_ok-see.ensures.explorations in
    rw (← v.2, ← v.1) (c.in_ok-go_home.ensures.0 c.if-not-branch.false)
