use Rattle.keymap_consequences.proofs.Common.{◌∙◌, arith, inl, inr, place_last, subst, sym}
use Rattle.std.specs.Prelude.{◌↔◌}
use Rattle.keymap_core.specs.Bearers.{Bears}
use Rattle.keymap_consequences.proofs.bearing.is_borne_otherwise.Goals as goal

pub returns-then-not-bear_alike-clause-otherwise : goal.returns-then-not-bear_alike-clause-otherwise
returns-then-not-bear_alike-clause-otherwise c = λ e all.
    c.bear_alike.ensures.otherwise c.if-not-bear_alike.true
    (all c.key_with-key.result
    (let at = c.key_with-key.ensures in omega (arith, at, c.loop-code-test.true)))

pub loop-code-preserved : goal.loop-code-preserved
loop-code-preserved c = λ k lt. elim (place_last k c.loop-code.code lt) [
  | inl below ↦ c.loop-code.invariant k below
  | inr same ↦
      subst (λ z. Bears c.args.old.now.map.now z c.args.holding ↔ Bears c.args.new.now.map.now z c.args.holding)
      (c.key_with-key.ensures ∙ sym same) (c.bear_alike.ensures.alike c.if-not-bear_alike.false)
]

pub returns-clause-alike : goal.returns-clause-alike
returns-clause-alike c = λ e other.
    other (λ k lt. c.loop-code.invariant k (omega (arith, lt, c.loop-code-test.false)))
