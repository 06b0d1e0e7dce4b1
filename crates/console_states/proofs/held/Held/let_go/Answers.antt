use Rattle.console_states.proofs.Common.{refl}
use Rattle.console_states.proofs.held.Held.let_go.Goals as goal

pub returns-in-Some-clause-leads : goal.returns-in-Some-clause-leads
returns-in-Some-clause-leads c = λ k holds. (_, refl, c.with_holder.ensures)
