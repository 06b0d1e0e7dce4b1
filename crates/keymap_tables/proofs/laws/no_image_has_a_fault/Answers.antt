use Rattle.keymap_tables.proofs.ReadingLaws.{no-fault}
use Rattle.keymap_tables.proofs.laws.no_image_has_a_fault.Goals as goal

pub returns : goal.returns
returns c = no-fault
