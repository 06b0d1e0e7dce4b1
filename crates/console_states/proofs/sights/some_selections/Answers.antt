use Rattle.console_states.proofs.Common.{ap, inl, inr, subst, sym, ◌∙◌, length, refl, state_of, selection_of, Contains}
use Rattle.console_states.proofs.Common.{Contains-push_cases, get_or_read_under}
use Rattle.console_states.proofs.sights.some_selections.Goals as goal

pub loop-held-preserved : goal.loop-held-preserved
loop-held-preserved c = λ m led y has.
    let old = c.loop-held.selections.items in
    let states = c.args.states.now in
    let n = c.loop-held.held-index in
    let held = c.held-item.result in
    elim (Contains-push_cases old c.selection.result y (subst (λ z. Contains z y) c.in_ok-push.ensures.items has)) [
      | inl was ↦ c.loop-held.invariant m led y was
      | inr same ↦
          let (path, is, leads) = led n held c.loop-held-test.true in
          let at = get_or_read_under states n (length states) held held c.held-item.is c.loop-held-test.true refl in
          let here = ap (λ h. selection_of (state_of h)) (sym at) ∙ sym c.selection.ensures ∙ same in
          (path, is, ap (λ s. selection_of s) leads ∙ here)
    ]
