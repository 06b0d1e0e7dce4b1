use Rattle.play_core.proofs.Common.{List, [], ◌∷◌, ◌++◌, take, sym, ap, subst, ◌∙◌, arith, reverse, Event, rules}
use Rattle.play_core.proofs.Common.{Gathers-start, Gathers-same, Gathers-more, StopsIn-more, passed_on, delivered}
use Rattle.play_core.proofs.Texts.{text-nil, text-more, text-rest, delivered-more}
use Rattle.console_core.proofs.Shared.{reverse-joined}
use Rattle.play_core.proofs.player.deliver_all.Goals as goal

pub loop-one-init : goal.loop-one-init
loop-one-init g c = search (rules, text-nil, Gathers-start)

pub loop-one-preserved : goal.loop-one-preserved
loop-one-preserved g c =
    let sent = c.args.sent.now in
    let i = c.loop-one.one-index in
    record {
      stands = λ ms h s.
          let before = delivered (take i sent) in
          let more = delivered-more sent i c.one-item.result c.loop-one-test.true c.one-item.is in
          let same =
          ap (λ (d : List Event). reverse d ++ h) more
          ∙ reverse-joined before (delivered (c.one-item.result ∷ [])) h in
          subst (λ (l : List Event). g.T.Translator.stands c.play_sent.new.console ms l) (sym same)
          (c.play_sent.ensures.next ms (reverse before ++ h) (c.loop-one.invariant.stands ms h s));
      gathers = λ ms h s.
          let more = text-more c.args.show ms h sent i c.one-item.result c.loop-one-test.true c.one-item.is in
          Gathers-same _ (sym more)
          (Gathers-more _ _ (c.in_ok-make_room.ensures.bytes _ _ (c.loop-one.invariant.gathers ms h s)) c.play_sent.ensures.written
          (c.play_sent.ensures.text ms (reverse (delivered (take i sent)) ++ h) (c.loop-one.invariant.stands ms h s)));
      few = omega (arith, c.in_ok-make_room.ensures.count, c.play_sent.ensures.size, c.loop-one.invariant.few);
      failed = c.in_ok-make_room.ensures.failed ∙ c.loop-one.invariant.failed;
    }

pub returns-in_err-make_room-clause-bytes : goal.returns-in_err-make_room-clause-bytes
returns-in_err-make_room-clause-bytes g c = λ ms h s.
    let sent = c.args.sent.now in
    let i = c.loop-one.one-index in
    passed_on _ _ _ _ c.from_residual.ensures.1
    (StopsIn-more _ _ _ _ _ _ (sym (text-rest c.args.show ms h sent i))
    (c.in_err-make_room.ensures.bytes _ _ (c.loop-one.invariant.gathers ms h s)))
