use Rattle.keymap_lint.proofs.Common.{refl}
use Rattle.keymap_lint.proofs.Lists.{flat_step}
use Rattle.keymap_lint.specs.Octal.{octal_cell}
use Rattle.keymap_lint.proofs.octal_like.add_cells.Goals as goal

pub loop-cell-preserved : goal.loop-cell-preserved
loop-cell-preserved c =
    flat_step (octal_cell c.args.text.now) c.args.cells.now _ c.loop-cell.cell-index _ _ _ _ _ _ refl
    c.loop-cell-test.true refl c.loop-cell.invariant c.octal_cell.ensures c.in_ok-add.ensures
