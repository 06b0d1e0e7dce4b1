use Rattle.keymap_tables.proofs.Common.{◌∙◌, ◌*◌, ap, arith, List, ℕ, Some, number_at, number_size}
use Rattle.keymap_tables.proofs.AccentImages.{number-in}
use Rattle.keymap_tables.proofs.tables.own_in.Goals as goal

pub returns-in-Ok : goal.returns-in-Ok
returns-in-Ok c =
    λ a is same. let l = c.args.layout in
    ap Some (c.in-Ok.ensures.number ∙ ap (λ (v : List ℕ). number_at l v (number_size l * 0)) same
    ∙ number-in l a is 0 (omega arith))
