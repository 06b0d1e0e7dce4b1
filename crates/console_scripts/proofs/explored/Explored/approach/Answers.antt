use Rattle.console_scripts.proofs.Common.{reverse, subst, slice_get_within, map_of_explored, state_of, IsDeadFor, start}
use Rattle.console_scripts.proofs.Common.{rules, on_ok-then}
use Rattle.console_scripts.proofs.Leading.{dead-met, sees-at, sees-behind}
use Rattle.console_scripts.proofs.explored.Explored.approach.Goals as goal

pub go_composing-requires-clause-dead : goal.go_composing-requires-clause-dead
go_composing-requires-clause-dead g c =
    dead-met c.args.self.now c.args.aim.now.sight c.in-Some.dead
    (subst (λ o. IsDeadFor c.args.self.now c.args.aim.now.sight o) c.in-Some.is c.requires.aim.1)

pub go_composing-requires-clause-place : goal.go_composing-requires-clause-place
go_composing-requires-clause-place g c = search (rules, slice_get_within)

pub go_looking-requires-clause-place : goal.go_looking-requires-clause-place
go_looking-requires-clause-place g c = search (rules, slice_get_within)

pub returns-in-Some : goal.returns-in-Some
returns-in-Some g c =
    let e = c.args.self.now in
    let x = c.args.aim.now.sight in
    on_ok-then c.go_composing.result
    (λ leads y at.
    sees-behind e x c.in-Some.dead (map_of_explored e) start (state_of y.0) (reverse c.args.events.now.items)
    (reverse c.go_composing.new.events.items) (subst (λ o. IsDeadFor e x o) c.in-Some.is c.requires.aim.1)
    (λ accent tapped. leads y accent at tapped))
    c.go_composing.ensures

pub returns-in-None : goal.returns-in-None
returns-in-None g c = search (rules, on_ok-then, sees-at)
