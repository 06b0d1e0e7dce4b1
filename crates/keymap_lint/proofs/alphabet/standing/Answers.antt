use Rattle.keymap_lint.proofs.Common.{◌≡◌, ◌<◌, ◌∙◌, ap, arith, gathered, subst, sym}
use Rattle.std.proofs.Common.{All}
use Rattle.keymap_lint.specs.Alphabets.{standing_letter}
use Rattle.keymap_lint.proofs.Lists.{all_standing}
use Rattle.keymap_lint.proofs.alphabet.standing.Goals as goal

pub returns-clause-in_range : goal.returns-clause-in_range
returns-clause-in_range c =
    let all : c.loop-letter.letter ≡ 26 = omega arith in
    let items =
    c.loop-letter.invariant.found ∙ ap (gathered (standing_letter c.args.letters.now c.args.number)) all in
    subst (All (λ i. i < 26)) (sym items) (all_standing c.args.letters.now c.args.number)
