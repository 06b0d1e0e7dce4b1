use Rattle.keymap_check.proofs.Common.{rules}
use Rattle.keymap_check.proofs.survey.Survey.of.Goals as goal

pub returns : goal.returns
returns g c = search rules
