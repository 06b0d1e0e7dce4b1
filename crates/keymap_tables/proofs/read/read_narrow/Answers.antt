use Rattle.keymap_tables.proofs.ReadingLaws.{reading-image, reading-fault}
use Rattle.keymap_tables.specs.Layouts.{narrow}
use Rattle.keymap_tables.proofs.read.read_narrow.Goals as goal

pub returns-clause-map : goal.returns-clause-map
returns-clause-map c = reading-image narrow c.args.bytes.now c.read_file.result c.read_file.ensures

pub returns-clause-fault : goal.returns-clause-fault
returns-clause-fault c = reading-fault narrow c.args.bytes.now c.read_file.result c.read_file.ensures
