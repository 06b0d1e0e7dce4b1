use Rattle.console_states.proofs.Common.{refl}
use Rattle.console_states.proofs.held.Held.tapped.Goals as goal

pub returns-then-is_usable-clause-leads : goal.returns-then-is_usable-clause-leads
returns-then-is_usable-clause-leads c = λ accent minded can none offers. (_, refl, c.with_accent.ensures)
