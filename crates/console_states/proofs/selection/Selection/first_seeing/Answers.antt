use Rattle.console_states.proofs.Common.{refl, subst, sym, arith, below_more, SeesBy}
use Rattle.console_states.proofs.selection.Selection.first_seeing.Goals as goal

pub loop-code-preserved : goal.loop-code-preserved
loop-code-preserved c =
    below_more _ _ c.loop-code.invariant
    (λ sees. c.if-sees.ensures.unseen refl
    (subst (λ k. SeesBy c.args.map.now c.args.self k c.args.sight) (sym c.key_with-key.ensures) sees))

pub returns : goal.returns
returns c = λ k lt sees. c.loop-code.invariant k (omega (arith, lt, c.loop-code-test.false)) sees
