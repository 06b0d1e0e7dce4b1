use Rattle.keymap_text.proofs.Common.{arith, is_word}
use Rattle.keymap_text.proofs.Leading.{leading_le}
use Rattle.keymap_text.proofs.names.key_of.Goals as goal

pub key_at_end-requires-clause-inside : goal.key_at_end-requires-clause-inside
key_at_end-requires-clause-inside c = omega (arith, leading_le is_word c.args.bytes.now, c.requires.word)
