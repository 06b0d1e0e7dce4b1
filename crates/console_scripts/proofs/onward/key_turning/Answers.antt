use Rattle.keymap_core.specs.declared.action.Action.TheVariants as act
use Rattle.console_scripts.proofs.Common.{Takes, Act, Scroll, arith, below_more, refl, state_of, subst, sym, under_of}
use Rattle.console_scripts.proofs.onward.key_turning.Goals as goal

pub loop-code-preserved : goal.loop-code-preserved
loop-code-preserved c =
    below_more _ _ c.loop-code.invariant
    (λ move. c.if-is_turned_by.ensures.never refl
    (subst (λ k. Takes (under_of c.args.maps.now) (state_of c.args.held.now) k (Act (act.Lock Scroll)))
    (sym c.key_with-key.ensures)
    move))

pub returns : goal.returns
returns c = λ k move. c.loop-code.invariant k (omega (arith, move.0, c.loop-code-test.false)) move
