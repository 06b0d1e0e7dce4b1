use Rattle.keymap_text.proofs.Common.{sym, subst, arith, Fronts}
use Rattle.keymap_text.specs.declared.words.Item.TheVariants.{Value}
use Rattle.keymap_text.proofs.Fronts.{word_fronts}
use Rattle.keymap_text.proofs.scanner.front_number.Goals as goal

pub returns-in-Some : goal.returns-in-Some
returns-in-Some c =
    let rest = c.args.rest.now in
    let found = c.in-Some.ensures in
    subst (λ m. Fronts rest (Value m) 6) (sym found.2)
    (word_fronts 6 rest (sym found.1) found.0 (omega arith) (omega arith))

pub returns-in-Some-three_digit_number : goal.returns-in-Some-three_digit_number
returns-in-Some-three_digit_number c =
    let rest = c.args.rest.now in
    let found = c.in-Some-three_digit_number.ensures in
    subst (λ m. Fronts rest (Value m) 3) (sym found.2)
    (word_fronts 3 rest (sym found.1) found.0 (omega arith) (omega arith))
