use Rattle.console_core.proofs.Common.{◌++◌, take, List, reverse, Event, Maps}
use Rattle.console_core.proofs.replays.deliver_all.Given as goal

abbrev pub invariant-loop-event : goal.invariant-loop-event
invariant-loop-event g l =
    (ms : Maps) (h : List Event) → g.T.Translator.stands l.fn.console ms h
    → g.T.Translator.stands l.console ms (reverse (take l.event-index l.events) ++ h)
