use Rattle.console_states.proofs.Common.{below_more, Offers, state_of, under_of}
use Rattle.console_states.proofs.Adding.{one_accent}
use Rattle.console_states.proofs.held.Held.key_offering.Goals.{in-Some+else-offered-accent, in_default}
use Rattle.console_states.proofs.held.Held.key_offering.Goals as goal

pub loop-code-preserved : goal.loop-code-preserved
loop-code-preserved c =
    below_more _ _ c.loop-code.invariant
    (λ offers.
    let here : Offers (under_of c.args.maps.now) (state_of c.args.self.now) c.key_with-key.result c.args.accent =
    rw c.key_with-key.ensures offers in
    elim c.match-offered.branch [
      | in-Some+else-offered-accent w ↦
          w.if-offered-accent.false (one_accent _ _ _ w.in-Some.ensures.1.0 here.1.0)
      | in_default w ↦ w.in_default.ensures c.args.accent here
    ])
