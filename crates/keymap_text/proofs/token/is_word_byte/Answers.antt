use Rattle.keymap_text.proofs.Common.{arith}
use Rattle.keymap_text.proofs.Classes.{word_class}
use Rattle.keymap_text.proofs.token.is_word_byte.Goals as goal

pub returns : goal.returns
returns c = word_class c.args.c (omega arith)
