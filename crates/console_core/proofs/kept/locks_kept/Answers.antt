use Rattle.console_core.proofs.Common.{◌∙◌}
use Rattle.console_core.proofs.Bytes.{lock-bits}
use Rattle.console_core.proofs.kept.locks_kept.Goals as goal

pub returns-clause-bits : goal.returns-clause-bits
returns-clause-bits c = λ ms h at l. lock-bits c.args.kept.now.word l ∙ at.agrees.locks l
