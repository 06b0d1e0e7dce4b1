use Rattle.keymap_check.proofs.Common.{◌++◌, List, reverse, gathered, Maps, Event, event_at}
use Rattle.keymap_check.proofs.demonstration.deliver.Given as goal

abbrev pub invariant-loop-bit : goal.invariant-loop-bit
invariant-loop-bit g l =
    (ms : Maps) (h : List Event) → g.T.Translator.stands l.fn.console ms h
    → g.T.Translator.stands l.console ms
    (reverse (gathered (event_at l.is_press l.keys l.set.bits l.except.bits) l.bit) ++ h)
