use Rattle.keymap_text.proofs.Common.{sym, ap, ◌∙◌, arith}
use Rattle.keymap_text.specs.declared.words.Meaning.TheVariants.{Number}
use Rattle.keymap_text.proofs.Meanings.{three_digits}
use Rattle.keymap_text.proofs.words.three_digit_number.Goals as goal

pub returns : goal.returns
returns c =
    let first = c.digit_value-first.ensures in
    let second = c.digit_value-second.ensures in
    let last = c.digit_value-last.ensures in
    let three = three_digits c.args.rest.now (omega arith) (omega (arith, first)) (omega (arith, second))
    (omega (arith, last)) (sym c.is_word_byte.ensures ∙ c.if-is_word_byte.false) in
    (omega arith, three.0, ap Number (omega (arith, first, second, last)) ∙ three.1)
