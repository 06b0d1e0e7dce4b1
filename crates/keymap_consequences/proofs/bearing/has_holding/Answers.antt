use Rattle.keymap_consequences.proofs.Common.{◌≡◌, ◌∙◌, ap, arith}
use Rattle.std.proofs.Common.{get_or}
use Rattle.keymap_core.specs.declared.entry.Cell.TheVariants.{Char}
use Rattle.keymap_consequences.proofs.bearing.has_holding.Goals as goal

pub returns : goal.returns
returns c = λ e a stands.
    let (column, lt, is) = stands in
    let same = c.cells-cell-items.ensures.cells ∙ ap (λ x. x.cells) c.entry.ensures in
    c.loop-cell.invariant column (Char 0)
    (let eight = c.cells-cell-items.ensures.eight in omega (arith, lt, eight, c.loop-cell-test.false)) a
    (ap (λ xs. get_or xs column (Char 0)) same ∙ is)
