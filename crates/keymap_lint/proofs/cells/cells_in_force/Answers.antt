use Rattle.keymap_lint.proofs.Common.{[], cells_of, refl}
use Rattle.keymap_lint.proofs.Lists.{flat_step}
use Rattle.keymap_lint.proofs.cells.cells_in_force.Goals as goal

pub loop-definition-preserved : goal.loop-definition-preserved
loop-definition-preserved c =
    flat_step (cells_of c.args.text.now) _ _ _ _ _ [] _ _ _ c.definitions-definition-items.ensures
    c.loop-definition-test.true refl c.loop-definition.invariant refl c.in_ok-add_cells.ensures
