use Rattle.keymap_core.proofs.Equality.{cell-same}
use Rattle.keymap_core.proofs.laws.equal_cells_are_the_same.Goals as goal

pub returns : goal.returns
returns c = cell-same
