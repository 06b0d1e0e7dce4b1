use Rattle.console_core.proofs.Common.{◌≡◌, ◌+◌, ◌∷◌, ◌++◌, [], take, common_steps, rules}
use Rattle.console_core.proofs.Deliveries.{take_event, reverse-push}
use Rattle.console_core.proofs.replays.deliver_all.Goals as goal

pub loop-event-preserved : goal.loop-event-preserved
loop-event-preserved g c =
    let events = c.args.events.now in
    let index = c.loop-event.event-index in
    let e : take (index + 1) events ≡ take index events ++ c.event-item.result ∷ [] =
    take_event _ _ _ c.event-item.is c.loop-event-test.true in
    λ ms h s. rw (e, reverse-push c.event-item.result (take index events) h)
    (c.step.ensures.next ms _ (c.loop-event.invariant ms h s))

pub returns : goal.returns
returns g c = search (rules, common_steps)
