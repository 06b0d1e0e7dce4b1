use Rattle.keymap_core.proofs.CodeLaws.{code-read}
use Rattle.keymap_core.proofs.laws.every_code_is_read.Goals as goal

pub returns : goal.returns
returns c = code-read
