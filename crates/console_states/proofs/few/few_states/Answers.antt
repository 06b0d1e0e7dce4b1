use Rattle.std.proofs.Common.{rules}
use Rattle.console_states.proofs.Common.{All-cons, All-nil, arith, below_more, start, state_of, subst, under_of}
use Rattle.console_states.proofs.Common.{Contains-push, HasLike, PressesLead, StepsTo}
use Rattle.console_states.proofs.Likes.{like-grown, like-step}
use Rattle.console_states.proofs.few.few_states.Goals as goal
use Rattle.console_states.proofs.few.few_states.Goals.{in-Some+then-not-has_like+in_ok-push_pressed}
use Rattle.console_states.proofs.few.few_states.Goals.{in-Some+else-not-has_like, in_default}

pub loop-code-init : goal.loop-code-init
loop-code-init c = record {
  led = search (rules, All-cons, All-nil);
  begun = rw c.in_ok-push.ensures.items (
    c.start.result,
    Contains-push c.new-states.result.items c.start.result,
    c.start.ensures,
  );
  pressed = λ k lt. absurd (omega (arith, lt));
}

pub loop-code-preserved : goal.loop-code-preserved
loop-code-preserved c =
    let before = c.loop-code.invariant in
    let u = under_of c.args.maps.now in
    let code = c.loop-code.code in
    let states = c.loop-code.states.items in
    let step = c.pressed.result in
    let leads : PressesLead u start code (StepsTo step) =
    subst (λ k. PressesLead u start k (StepsTo step)) c.key_with-key.ensures
    (subst (λ s. PressesLead u s c.key_with-key.result (StepsTo step)) c.start-in-loop-code.ensures
    c.pressed.ensures.leads) in
    elim c.match-pressed.branch [
      | in-Some+then-not-has_like+in_ok-push_pressed w ↦
          let pushed = w.in_ok-push_pressed.ensures in
          let now = w.push_pressed.new.states.items in
          let (h, there, is) = before.begun in
          rw w.states-is (record {
            led = pushed.led;
            begun = (h, pushed.kept h there, is);
            pressed =
                below_more _ _ (λ k lt. like-grown u start k states now pushed.kept (before.pressed k lt))
                (subst (λ k. PressesLead u start k (HasLike now)) c.key_with-key.ensures
                (subst (λ s. PressesLead u s c.key_with-key.result (HasLike now)) is (pushed.pressed h there)));
          })
      | in-Some+else-not-has_like w ↦
          let like = subst (λ xs. HasLike xs (state_of w.in-Some.step.to)) w.deref.ensures.value
          (w.has_like.ensures w.if-not-has_like.false) in
          rw w.states-is (record {
            led = before.led;
            begun = before.begun;
            pressed = below_more _ _ before.pressed (like-step u start code states step leads (rw w.in-Some.is like));
          })
      | in_default w ↦ rw w.states-is (record {
        led = before.led;
        begun = before.begun;
        pressed = below_more _ _ before.pressed (like-step u start code states step leads (rw w.in_default.is tt));
      })
    ]

pub returns-clause-pressed : goal.returns-clause-pressed
returns-clause-pressed c = λ k lt. c.loop-code.invariant.pressed k (omega (arith, lt, c.loop-code-test.false))
