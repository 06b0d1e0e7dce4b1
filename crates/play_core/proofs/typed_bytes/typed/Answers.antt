use Rattle.play_core.proofs.Common.{drop, sym, ◌∙◌, arith, Gathers-start, Gathers-same, Gathers-more, rules}
use Rattle.play_core.proofs.Common.{StopsIn-more, passed_on, typed_text}
use Rattle.play_core.proofs.Texts.{typed-nil, typed-more, typed-rest}
use Rattle.play_core.proofs.typed_bytes.typed.Goals as goal

pub loop-answer-init : goal.loop-answer-init
loop-answer-init g c = search (rules, typed-nil, Gathers-start)

pub loop-answer-preserved : goal.loop-answer-preserved
loop-answer-preserved g c =
    let answers = c.args.answers.now in
    let i = c.loop-answer.answer-index in
    let more = typed-more answers i c.answer-item.result c.loop-answer-test.true c.answer-item.is in
    record {
      gathers =
          Gathers-same _ (sym more)
          (Gathers-more _ _ (c.in_ok-make_room.ensures.bytes _ _ c.loop-answer.invariant.gathers) c.push_typed.ensures.written
          c.push_typed.ensures.text);
      few = omega (arith, c.in_ok-make_room.ensures.count, c.push_typed.ensures.size, c.loop-answer.invariant.few);
      failed = c.in_ok-make_room.ensures.failed ∙ c.loop-answer.invariant.failed;
    }

pub returns-in_err-make_room-clause-bytes : goal.returns-in_err-make_room-clause-bytes
returns-in_err-make_room-clause-bytes g c =
    let answers = c.args.answers.now in
    let i = c.loop-answer.answer-index in
    passed_on _ _ _ _ c.from_residual.ensures.1
    (StopsIn-more _ _ _ (typed_text (drop i answers)) _ _ (sym (typed-rest answers i))
    (c.in_err-make_room.ensures.bytes _ _ c.loop-answer.invariant.gathers))
