use Rattle.keymap_lint.proofs.Common.{rules}
use Rattle.keymap_lint.proofs.Lists.{map_step}
use Rattle.keymap_lint.proofs.cells.add_slot.Goals as goal

pub loop-column-preserved : goal.loop-column-preserved
loop-column-preserved c = search (rules, map_step)
