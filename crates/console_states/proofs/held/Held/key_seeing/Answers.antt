use Rattle.console_states.proofs.Common.{refl, subst, sym, arith, below_more, state_of, under_of}
use Rattle.console_states.specs.AllowedSights.{SeesAllowed}
use Rattle.console_states.proofs.held.Held.key_seeing.Goals as goal

pub loop-code-preserved : goal.loop-code-preserved
loop-code-preserved c =
    below_more _ _ c.loop-code.invariant
    (λ sees. c.if-is_seen_by.ensures.unseen refl
    (subst (λ k. SeesAllowed (under_of c.args.maps.now) (state_of c.args.self.now) k c.args.sight)
    (sym c.key_with-key.ensures) sees))

pub returns : goal.returns
returns c = λ k (lt, sees). c.loop-code.invariant k (omega (arith, lt, c.loop-code-test.false)) sees
