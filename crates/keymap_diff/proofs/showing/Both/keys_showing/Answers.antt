use Rattle.std.proofs.Common.{rules}
use Rattle.keymap_diff.proofs.Common.{[], ◌∷◌, ◌++◌, ap, ◌∙◌, refl, subst, arith, ShowsNothing, State, ℕ}
use Rattle.console_states.proofs.Shared.{empty-none, keys-with, keys-without}
use Rattle.keymap_diff.proofs.showing.Both.keys_showing.Goals.{then-can_key_show+in_ok-push, else-can_key_show}
use Rattle.keymap_diff.proofs.showing.Both.keys_showing.Goals as goal

pub loop-code-init : goal.loop-code-init
loop-code-init c = search (rules, empty-none)

pub loop-code-preserved : goal.loop-code-preserved
loop-code-preserved c =
    let m = c.args.self.now.old.now in
    let n = c.args.self.now.new.now in
    let p = c.args.minded in
    let nothing = λ (k : ℕ). (s : State) → ShowsNothing m n p s k in
    let keys = c.loop-code.keys.items in
    let code = c.loop-code.code in
    elim c.if-can_key_show.branch [
      | then-can_key_show+in_ok-push w ↦
          keys-with nothing keys c.if-can_key_show.keys.items code
          (ap (λ v. v.items) w.keys-is ∙ w.in_ok-push.ensures.items ∙ ap (λ k. keys ++ k ∷ []) c.key_with-key.ensures)
          c.loop-code.invariant
      | else-can_key_show w ↦
          keys-without nothing keys c.if-can_key_show.keys.items code (ap (λ v. v.items) w.keys-is)
          (λ s. subst (λ k. ShowsNothing m n p s k) c.key_with-key.ensures (w.if-can_key_show.ensures refl s))
          c.loop-code.invariant
    ]

pub returns : goal.returns
returns c = (
  (λ k lt. c.loop-code.invariant.0 k (omega (arith, lt, c.loop-code-test.false))),
  (λ k is. let lt = c.loop-code.invariant.1 k is in omega (arith, lt, c.loop-code.auto.code-end)),
)
