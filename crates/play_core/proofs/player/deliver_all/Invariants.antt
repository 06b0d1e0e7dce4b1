use Rattle.play_core.proofs.Common.{◌≡◌, ◌≤◌, ◌*◌, ◌++◌, List, take, reverse, Gathers, Event, Maps}
use Rattle.play_core.proofs.Common.{delivered, text_after}
use Rattle.keymap_core.specs.Streams.{size_of}
use Rattle.play_core.proofs.player.deliver_all.Given as goal

abbrev pub invariant-loop-one : goal.invariant-loop-one
invariant-loop-one g l = record {
  stands : (ms : Maps) (h : List Event) → g.T.Translator.stands l.fn.console ms h
      → g.T.Translator.stands l.console ms (reverse (delivered (take l.one-index l.sent)) ++ h);
  gathers : (ms : Maps) (h : List Event) → g.T.Translator.stands l.fn.console ms h
      → Gathers (g.W.Write.contents l.fn.out) (g.W.Write.contents l.out)
      l.text
      (text_after l.show ms h (delivered (take l.one-index l.sent)));
  few : size_of l.text ≤ 140 * l.one-index;
  failed : g.W.Write.has_failed l.out ≡ g.W.Write.has_failed l.fn.out;
}
