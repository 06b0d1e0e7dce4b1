use Rattle.console_core.proofs.Facts.{dead_upper_half, looks_are_cells}
use Rattle.console_core.proofs.laws.looks_are_cells.Goals as goal

pub returns-clause-cells : goal.returns-clause-cells
returns-clause-cells c = looks_are_cells

pub returns-clause-dead_upper_half : goal.returns-clause-dead_upper_half
returns-clause-dead_upper_half c = dead_upper_half
