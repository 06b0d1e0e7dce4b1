use Rattle.keymap_text.proofs.Common.{◌∙◌}
use Rattle.keymap_text.proofs.Meanings.{look_in_table}
use Rattle.keymap_text.proofs.names.character_or_letter.Goals as goal

pub returns : goal.returns
returns c = c.lookup.ensures ∙ look_in_table c.args.word.now
