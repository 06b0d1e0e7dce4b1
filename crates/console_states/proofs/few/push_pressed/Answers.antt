use Rattle.console_states.proofs.Common.{◌<◌, ◌≡◌, ◌++◌, ◌∷◌, [], length, get_or, arith, sym, subst, append_assoc}
use Rattle.console_states.proofs.Common.{below_more, Held, state_of, under_of, Contains-append_left, Contains-push}
use Rattle.console_states.proofs.Common.{HasLike, IsLedTo, PressesLead, ◌∙◌, ap}
use Rattle.std.proofs.lemmas.List.{get_or_append_left, get_or_default, length-append}
use Rattle.std.proofs.lemmas.List.Elements.{All-push}
use Rattle.console_states.proofs.Likes.{added-kept, like-grown, like-itself, like-step}
use Rattle.console_states.proofs.Offering.{led-on}
use Rattle.console_states.proofs.few.push_pressed.Goals as goal
use Rattle.console_states.proofs.few.push_pressed.Goals.{in-Some+in_ok-push, in_default}

pub loop-place-preserved : goal.loop-place-preserved
loop-place-preserved c =
    let u = under_of c.args.maps.now in
    let k = c.args.key in
    let old = c.args.states.now.items in
    let states = c.loop-place.states.items in
    let from = c.index.result.now in
    let before = c.loop-place.invariant in
    let (more, grown) = before.added in
    let below : c.loop-place.place < length old = omega (arith, c.loop-place-test.true, c.len-place-end.ensures) in
    let inside : c.loop-place.place < length states =
    let long = length-append old more in
    subst (λ xs. c.loop-place.place < length xs) (sym grown) (omega (arith, below, long)) in
    let is_from : (h : Held) → get_or old c.loop-place.place h ≡ h → from ≡ h =
    λ h at. c.index.ensures ∙ ap (λ xs. get_or xs c.loop-place.place from) grown
    ∙ get_or_append_left old more from c.loop-place.place below
    ∙ get_or_default old c.loop-place.place from h below ∙ at in
    elim c.match-pressed.branch [
      | in-Some+in_ok-push w ↦
          let to = w.in-Some.step.to in
          let now = states ++ to ∷ [] in
          let led =
          subst (λ h. IsLedTo u (state_of h)) (sym c.index.ensures) (before.led c.loop-place.place from inside) in
          rw (w.states-is, w.in_ok-push.ensures.items) (record {
            led =
                All-push (λ h. IsLedTo u (state_of h)) states to before.led
                (led-on u (state_of from) 1 w.in-Some.step led w.in-Some.ensures.step);
            added = (more ++ to ∷ [], ap (λ xs. xs ++ to ∷ []) grown ∙ append_assoc old more (to ∷ []));
            pressed =
                below_more _ _
                (λ j lt h at. like-grown u (state_of h) k states now (Contains-append_left states (to ∷ []))
                (before.pressed j lt h at))
                (λ h at. subst (λ s. PressesLead u (state_of s) k (HasLike now)) (is_from h at)
                (like-step u (state_of from) k now c.pressed.result c.pressed.ensures.leads
                (rw w.in-Some.is (like-itself now to (Contains-push states to)))));
          })
      | in_default w ↦ rw w.states-is (record {
        led = before.led;
        added = before.added;
        pressed =
            below_more _ _ before.pressed
            (λ h at. subst (λ s. PressesLead u (state_of s) k (HasLike states)) (is_from h at)
            (like-step u (state_of from) k states c.pressed.result c.pressed.ensures.leads
            (rw w.in_default.is tt)));
      })
    ]

pub returns-clause-kept : goal.returns-clause-kept
returns-clause-kept c =
    added-kept c.args.states.now.items c.loop-place.states.items c.loop-place.invariant.added

pub returns-clause-pressed : goal.returns-clause-pressed
returns-clause-pressed c =
    λ h (j, lt, at). c.loop-place.invariant.pressed j
    (omega (arith, lt, c.loop-place-test.false, c.len-place-end.ensures)) h at
