use Rattle.console_states.proofs.Common.{[], ◌∷◌, ◌++◌, ap, ◌∙◌, refl, subst, arith, look_in, under_of, rules, State, ℕ}
use Rattle.console_states.proofs.Common.{IsOther}
use Rattle.console_states.proofs.Adding.{empty-none}
use Rattle.console_states.proofs.KeyLists.{keys-with, keys-without}
use Rattle.console_states.proofs.key_lists.keys_of.Goals.{then-has_in_some+in_ok-push, else-has_in_some}
use Rattle.console_states.proofs.key_lists.keys_of.Goals as goal

pub loop-code-init : goal.loop-code-init
loop-code-init c = search (rules, empty-none)

pub loop-code-preserved : goal.loop-code-preserved
loop-code-preserved c =
    let u = under_of c.args.maps.now in
    let other = λ (k : ℕ). (s : State) → IsOther c.args.kind (look_in u s k) in
    let keys = c.loop-code.keys.items in
    let n = c.loop-code.code in
    elim c.if-has_in_some.branch [
      | then-has_in_some+in_ok-push w ↦
          keys-with other keys c.if-has_in_some.keys.items n
          (ap (λ v. v.items) w.keys-is ∙ w.in_ok-push.ensures.items ∙ ap (λ k. keys ++ k ∷ []) c.key_with-key.ensures)
          c.loop-code.invariant
      | else-has_in_some w ↦
          keys-without other keys c.if-has_in_some.keys.items n (ap (λ v. v.items) w.keys-is)
          (λ s. subst (λ k. IsOther c.args.kind (look_in u s k)) c.key_with-key.ensures
          (w.if-has_in_some.ensures refl s))
          c.loop-code.invariant
    ]

pub returns : goal.returns
returns c = (
  (λ k lt. c.loop-code.invariant.0 k (omega (arith, lt, c.loop-code-test.false))),
  (λ k is. let lt = c.loop-code.invariant.1 k is in omega (arith, lt, c.loop-code.auto.code-end)),
)
