-- the console runs along by the events before the place
use Rattle.keymap_cover.proofs.Common.{reverse, take, GoesAlong}
use Rattle.keymap_cover.proofs.script.Script.walk.Given as goal

abbrev pub invariant-loop-event : goal.invariant-loop-event
invariant-loop-event g l =
    GoesAlong l.map (reverse (take l.event-index l.events)) g.T.Translator.stands l.fn.self l.self
