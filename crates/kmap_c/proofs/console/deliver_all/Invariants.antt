use Rattle.kmap_c.proofs.Common.{◌≡◌, ◌++◌, List, length, take, drop, map, reverse, Event, Maps, answers_to, KeptAt}
use Rattle.kmap_c.proofs.Common.{raw_of, event_of}
use Rattle.kmap_c.proofs.console.deliver_all.Given as goal

-- The events so far are delivered, and their answers in place; the places past the events are as they were.
abbrev pub invariant-loop-index : goal.invariant-loop-index
invariant-loop-index g l = record {
  long : length l.answers ≡ length l.fn.answers;
  rest : drop (length l.events) l.answers ≡ drop (length l.events) l.fn.answers;
  stands : (ms : Maps) (h : List Event) → g.K.Keymap.shows l.first ms.first → g.K.Keymap.shows l.second ms.second
      → KeptAt ms h l.fn.store → KeptAt ms (reverse (map event_of (take l.index l.events)) ++ h) l.store;
  answers : (ms : Maps) (h : List Event) → g.K.Keymap.shows l.first ms.first → g.K.Keymap.shows l.second ms.second
      → KeptAt ms h l.fn.store
      → take l.index l.answers ≡ map raw_of (answers_to ms h (map event_of (take l.index l.events)));
}
