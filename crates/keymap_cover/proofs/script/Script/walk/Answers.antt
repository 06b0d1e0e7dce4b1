use Rattle.keymap_cover.proofs.Common.{reverse, subst, arith, GoesAlong}
use Rattle.std.proofs.lemmas.List.{take_all}
use Rattle.keymap_cover.proofs.Walking.{along-more, along-rest, on-ok}
use Rattle.keymap_cover.proofs.script.Script.walk.Goals as goal

pub loop-event-preserved : goal.loop-event-preserved
loop-event-preserved g c =
    along-more g.T.Translator.stands c.args.map.now c.args.events.now c.loop-event.event-index c.event-item.result
    c.args.self.now c.loop-event.self c.deliver.new.self c.loop-event-test.true c.event-item.is
    c.loop-event.invariant c.in_ok-deliver.ensures

pub returns-clause-along : goal.returns-clause-along
returns-clause-along g c =
    let m = c.args.map.now in
    let s = g.T.Translator.stands in
    let events = c.args.events.now in
    on-ok c.settle.result
    (λ settled.
    along-rest s m (reverse events) c.args.self.now c.loop-event.self c.let_go.new.self c.settle.new.self
    (subst (λ xs. GoesAlong m (reverse xs) s c.args.self.now c.loop-event.self)
    (take_all c.loop-event.event-index events (omega (arith, c.loop-event-test.false))) c.loop-event.invariant)
    (c.in_ok-let_go.ensures.along m) (settled m))
    c.settle.ensures.along
