use Rattle.keymap_text.proofs.Common.{arith}
use Rattle.keymap_text.proofs.Classes.{digit_class}
use Rattle.keymap_text.proofs.words.digit_value.Goals as goal

pub returns : goal.returns
returns c = digit_class c.args.c (omega arith)
