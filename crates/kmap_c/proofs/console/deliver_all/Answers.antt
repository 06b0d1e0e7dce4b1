use Rattle.kmap_c.proofs.Common.{◌∙◌, ◌++◌, ◌∷◌, [], List, ℕ, ap, length, take, arith, map, raw_of, event_of}
use Rattle.std.proofs.lemmas.List.{take_more_set, length-set, drop-set-lt}
use Rattle.console_core.proofs.Shared.{reverse-push}
use Rattle.kmap_c.proofs.Delivered.{events-push, answers-push}
use Rattle.kmap_c.proofs.console.deliver_all.Goals as goal

pub loop-index-preserved : goal.loop-index-preserved
loop-index-preserved g c =
    let i = c.loop-index.index in
    let numbers = c.args.events.now in
    let es = map event_of (take c.loop-index.index c.args.events.now) in
    let more = events-push numbers i c.event_of.result c.event_of.ensures c.loop-index-test.true in
    record {
      long = length-set c.loop-index.answers i c.raw.result ∙ c.loop-index.invariant.long;
      rest =
          drop-set-lt (length numbers) c.loop-index.answers i c.raw.result (omega (arith, c.loop-index-test.true))
          ∙ c.loop-index.invariant.rest;
      stands = λ ms h first second s. rw (more, reverse-push c.event_of.result es h)
          (c.step_kept.ensures.next ms _ first second (c.loop-index.invariant.stands ms h first second s));
      answers = λ ms h first second s. rw more
          (take_more_set c.loop-index.answers i c.raw.result
          (omega (arith, c.loop-index-test.true, c.loop-index.invariant.long, c.requires))
          ∙ ap (λ (v : List ℕ). v ++ c.raw.result ∷ []) (c.loop-index.invariant.answers ms h first second s)
          ∙ answers-push ms h es c.event_of.result c.raw.result
          (c.raw.ensures
          ∙ ap raw_of
          (c.step_kept.ensures.answer ms _ first second (c.loop-index.invariant.stands ms h first second s))));
    }
