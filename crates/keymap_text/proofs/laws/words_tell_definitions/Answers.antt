use Rattle.keymap_text.proofs.Told.{words_tell}
use Rattle.keymap_text.proofs.laws.words_tell_definitions.Goals as goal

pub returns : goal.returns
returns c = words_tell
