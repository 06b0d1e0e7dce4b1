use Rattle.keymap_core.proofs.CodeLaws.{unused-codes}
use Rattle.keymap_core.proofs.laws.unused_codes_have_no_action.Goals as goal

pub returns : goal.returns
returns c = unused-codes
