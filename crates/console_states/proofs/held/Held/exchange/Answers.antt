use Rattle.console_states.proofs.Common.{refl, ap, ◌∙◌, exchanged, state_of}
use Rattle.console_states.proofs.held.Held.exchange.Goals as goal

pub returns-then-is_free-clause-leads : goal.returns-then-is_free-clause-leads
returns-then-is_free-clause-leads c =
    λ is. (
      _,
      refl,
      c.exchanged.ensures ∙ ap (λ m. exchanged m (state_of c.args.self.now)) c.next_in_force.ensures,
    )
