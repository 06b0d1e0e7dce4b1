use Rattle.keymap_tables.proofs.Common.{arith, ◌≡◌, ◌∙◌, ℕ, ◌+◌, ◌-◌, ◌*◌, ◌/◌, ap, sym, get_or, List, number_in}
use Rattle.keymap_tables.proofs.AccentImages.{number-base, number-result}
use Rattle.keymap_tables.proofs.accent.number_at.Goals as goal

pub returns-then-index-eq1 : goal.returns-then-index-eq1
returns-then-index-eq1 c =
    let a = c.args.accent.now in
    let j = (c.args.index - 1) / 2 in
    let place : 1 + 2 * ((c.args.index - 1) / 2) ≡ c.args.index = omega arith in
    ap (λ (v : List (ℕ × ℕ)). (get_or v ((c.args.index - 1) / 2) (0, 0)).0) c.pairs.ensures.value
    ∙ sym (number-base a.own a.pairs j) ∙ ap (number_in a) place

pub returns-else-index-eq1 : goal.returns-else-index-eq1
returns-else-index-eq1 c =
    let a = c.args.accent.now in
    let j = (c.args.index - 1) / 2 in
    let place : 2 + 2 * ((c.args.index - 1) / 2) ≡ c.args.index = omega arith in
    ap (λ (v : List (ℕ × ℕ)). (get_or v ((c.args.index - 1) / 2) (0, 0)).1) c.pairs.ensures.value
    ∙ sym (number-result a.own a.pairs j) ∙ ap (number_in a) place
