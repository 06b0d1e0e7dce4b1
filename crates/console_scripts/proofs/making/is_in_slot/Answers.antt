use Rattle.console_scripts.proofs.Common.{◌≡◌, length, get_or, ap, subst, ◌∙◌, refl, below_more, arith}
use Rattle.console_states.proofs.Shared.{Char, get_or_read_under}
use Rattle.keymap_core.specs.Maps.{entry_at}
use Rattle.console_scripts.specs.Inner.Courses.{IsMade}
use Rattle.console_scripts.proofs.making.is_in_slot.Goals as goal

pub loop-cell-preserved : goal.loop-cell-preserved
loop-cell-preserved c =
    let cells = c.cells-cell-items.result.now in
    let n = c.loop-cell.cell-index in
    let read : c.cell-item.result ≡ get_or cells n (Char 0) =
    get_or_read_under cells n (length cells) c.cell-item.result (Char 0) c.cell-item.is c.loop-cell-test.true refl in
    let same : cells ≡ (entry_at c.args.map.now c.args.slot).cells =
    c.cells-cell-items.ensures.cells ∙ ap (λ x. x.cells) c.entry.ensures in
    below_more _ _ c.loop-cell.invariant
    (subst (λ x. IsMade c.args.map.now c.args.accent c.args.character x → ⊥)
    (read ∙ ap (λ xs. get_or xs n (Char 0)) same) (c.is_made.ensures.other c.if-is_made.false))

pub returns : goal.returns
returns c =
    λ no column lt.
    c.loop-cell.invariant column (omega (arith, lt, c.loop-cell-test.false, c.cells-cell-items.ensures.eight))
