use Rattle.keymap_text.proofs.Scanning.{stays}
use Rattle.keymap_text.proofs.scanner.take_cells.Goals as goal

pub returns-in_default-clause-took : goal.returns-in_default-clause-took
returns-in_default-clause-took c = λ m. stays _ c.args.rest.now
