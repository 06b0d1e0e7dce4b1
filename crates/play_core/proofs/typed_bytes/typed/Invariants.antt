use Rattle.play_core.proofs.Common.{◌≡◌, ◌≤◌, ◌*◌, take, Gathers, typed_text}
use Rattle.keymap_core.specs.Streams.{size_of}
use Rattle.play_core.proofs.typed_bytes.typed.Given as goal

abbrev pub invariant-loop-answer : goal.invariant-loop-answer
invariant-loop-answer g l = record {
  gathers : Gathers (g.W.Write.contents l.fn.out) (g.W.Write.contents l.out)
      l.text (typed_text (take l.answer-index l.answers));
  few : size_of l.text ≤ 5 * l.answer-index;
  failed : g.W.Write.has_failed l.out ≡ g.W.Write.has_failed l.fn.out;
}
