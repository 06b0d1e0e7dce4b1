use Rattle.play_core.proofs.Common.{rules}
use Rattle.play_core.proofs.LineWords.{no_word, next_words}
use Rattle.play_core.proofs.words.next_word.Goals as goal

pub returns-in_err-first_word_byte : goal.returns-in_err-first_word_byte
returns-in_err-first_word_byte c =
    rw c.from_residual.ensures (no_word c.args.line.now c.in_err-first_word_byte.ensures.place)

pub returns : goal.returns
returns c = search (rules, next_words)
