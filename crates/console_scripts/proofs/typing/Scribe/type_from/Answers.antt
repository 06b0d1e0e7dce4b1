use Rattle.std.proofs.Common.{rules}
use Rattle.console_scripts.proofs.Common.{CanReturn, origin_in, reverse, state_of, subst, sym}
use Rattle.keymap_core.specs.Bounds.{IsMap}
use Rattle.console_scripts.specs.Inner.Seeking.{AreReached}
use Rattle.console_scripts.proofs.Exploring.{returns-origin}
use Rattle.console_scripts.proofs.Taking.{chosen-found, leads-found, leads-many, leads-none}
use Rattle.console_scripts.proofs.typing.Scribe.type_from.Goals as goal

pub see-requires-clause-origin : goal.see-requires-clause-origin
see-requires-clause-origin c = returns-origin c.args.map.now (state_of c.args.from.now) c.requires.can_return

pub choose-requires-clause-known : goal.choose-requires-clause-known
choose-requires-clause-known c =
    let v = c.explored_from-explored.ensures c.args.map.now c.in_ok-see.ensures.explorations in
    subst IsMap (sym v.1) c.requires.bounds

pub choose-requires-clause-explored : goal.choose-requires-clause-explored
choose-requires-clause-explored c = (c.explored_from-explored.ensures c.args.map.now c.in_ok-see.ensures.explorations).0

pub choose-requires-clause-can_return : goal.choose-requires-clause-can_return
choose-requires-clause-can_return c =
    let v = c.explored_from-explored.ensures c.args.map.now c.in_ok-see.ensures.explorations in
    let e = c.explored_from-explored.result.now in
    subst (λ n. CanReturn n (origin_in e)) (sym v.1)
    (subst (λ t. CanReturn c.args.map.now t) (sym v.2) c.requires.can_return)

pub choose-requires-clause-courses : goal.choose-requires-clause-courses
choose-requires-clause-courses c =
    let v = c.explored_from-explored.ensures c.args.map.now c.in_ok-see.ensures.explorations in
    let seeker = c.args.self.now.seeker in
    subst (λ n. AreReached seeker.board n seeker.courses.entries) (sym v.1) c.requires.reached

pub go-requires-clause-explored : goal.go-requires-clause-explored
go-requires-clause-explored c = (c.explored_from-explored.ensures c.args.map.now c.in_ok-see.ensures.explorations).0

pub go-requires-clause-route : goal.go-requires-clause-route
go-requires-clause-route c = search (rules, chosen-found)

pub returns-in-Some-clause-leads : goal.returns-in-Some-clause-leads
returns-in-Some-clause-leads c =
    let m = c.args.map.now in
    leads-found c.args.self.now.seeker.board m
    (state_of c.args.from.now) c.args.target c.explored_from-explored.result.now
    c.in_ok-choice.choice c.in-Some.chosen (c.explored_from-explored.ensures m c.in_ok-see.ensures.explorations)
    c.requires.can_return c.in_ok-choice.ensures.chosen c.in-Some.is (reverse c.args.self.now.events.items) _
    c.in_ok-next-in-Some.next c.in_ok-next-in-Some.ensures

pub returns-then-choice-clause-leads : goal.returns-then-choice-clause-leads
returns-then-choice-clause-leads c =
    let m = c.args.map.now in
    leads-none c.args.self.now.seeker.board m
    (state_of c.args.from.now) c.args.target c.explored_from-explored.result.now
    c.in_ok-choice.choice (c.explored_from-explored.ensures m c.in_ok-see.ensures.explorations) c.requires.can_return
    c.in_ok-choice.ensures.chosen c.in-None.is c.if-choice.true

pub returns-clause-leads : goal.returns-clause-leads
returns-clause-leads c =
    let m = c.args.map.now in
    leads-many c.args.self.now.seeker.board m
    (state_of c.args.from.now) c.args.target c.explored_from-explored.result.now
    c.in_ok-choice.choice (c.explored_from-explored.ensures m c.in_ok-see.ensures.explorations) c.requires.can_return
    c.in_ok-choice.ensures.chosen c.if-choice.false

pub returns-in-Some-clause-reached : goal.returns-in-Some-clause-reached
returns-in-Some-clause-reached c =
    let v = c.explored_from-explored.ensures c.args.map.now c.in_ok-see.ensures.explorations in
    let seeker = c.choose.new.self in
    subst (λ n. AreReached seeker.board n seeker.courses.entries) v.1 c.in_ok-choice.ensures.courses

pub returns-then-choice-clause-reached : goal.returns-then-choice-clause-reached
returns-then-choice-clause-reached c =
    let v = c.explored_from-explored.ensures c.args.map.now c.in_ok-see.ensures.explorations in
    let seeker = c.choose.new.self in
    subst (λ n. AreReached seeker.board n seeker.courses.entries) v.1 c.in_ok-choice.ensures.courses

pub returns-clause-reached : goal.returns-clause-reached
returns-clause-reached c =
    let v = c.explored_from-explored.ensures c.args.map.now c.in_ok-see.ensures.explorations in
    let seeker = c.choose.new.self in
    subst (λ n. AreReached seeker.board n seeker.courses.entries) v.1 c.in_ok-choice.ensures.courses
