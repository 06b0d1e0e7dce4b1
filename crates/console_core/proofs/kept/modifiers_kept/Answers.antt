use Rattle.console_core.proofs.Common.{◌∙◌}
use Rattle.console_core.specs.Types.{Mod}
use Rattle.console_core.proofs.Bytes.{modifier-bits}
use Rattle.console_core.proofs.kept.modifiers_kept.Goals as goal

pub returns : goal.returns
returns c = λ ms h at i. modifier-bits c.args.kept.now.word i ∙ at.agrees.marks (Mod i)
