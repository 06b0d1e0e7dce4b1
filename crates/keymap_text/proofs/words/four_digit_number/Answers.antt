use Rattle.keymap_text.proofs.Common.{sym, ap, ◌∙◌, arith}
use Rattle.keymap_text.specs.declared.words.Meaning.TheVariants.{Number}
use Rattle.keymap_text.proofs.Meanings.{four_digits}
use Rattle.keymap_text.proofs.words.four_digit_number.Goals as goal

pub returns : goal.returns
returns c =
    let first = c.digit_value-first.ensures in
    let second = c.digit_value-second.ensures in
    let third = c.digit_value-third.ensures in
    let last = c.digit_value-last.ensures in
    let four = four_digits c.args.rest.now (omega arith) (omega arith) (omega arith) (omega (arith, first))
    (omega (arith, second)) (omega (arith, third)) (omega (arith, last))
    (sym c.is_word_byte.ensures ∙ c.if-is_word_byte.false) in
    (omega arith, four.0, ap Number (omega (arith, first, second, third, last)) ∙ four.1)

pub bounds-rest-2 : goal.bounds-rest-2
bounds-rest-2 c = omega arith
