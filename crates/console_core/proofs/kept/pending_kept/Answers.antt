use Rattle.console_core.proofs.Common.{◌∙◌}
use Rattle.console_core.proofs.kept.pending_kept.Goals as goal

pub returns-clause-value : goal.returns-clause-value
returns-clause-value c = λ ms h at. c.pending.ensures.value ∙ at.agrees.pending
