use Rattle.std.proofs.Common.{List, ◌++◌, take}
use Rattle.console_core.specs.declared.event.Event.{Event}
use Rattle.console_core.specs.History.{between}
use Rattle.keyboard_cover.specs.Covering.{Knows}
use Rattle.keyboard_cover.specs.Runs.{run_events}
use Rattle.keyboard_cover.proofs.checked.see_all.Given as goal

-- the console ran along the first events, and what these saw was added
abbrev pub invariant-loop-event : goal.invariant-loop-event
invariant-loop-event g l =
    (h : List Event) → g.T.Translator.stands l.fn.console (between l.map l.map) h → Knows l.map l.fn.seen h
    → g.T.Translator.stands l.console (between l.map l.map) (run_events (take l.event-index l.events) ++ h)
    × Knows l.map l.seen (run_events (take l.event-index l.events) ++ h)
