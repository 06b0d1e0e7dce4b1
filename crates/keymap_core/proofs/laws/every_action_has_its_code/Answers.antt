use Rattle.keymap_core.proofs.CodeLaws.{action-has_code}
use Rattle.keymap_core.proofs.laws.every_action_has_its_code.Goals as goal

pub returns : goal.returns
returns c = action-has_code
