use Rattle.keymap_tables.proofs.ReadingLaws.{map-wide, reading-image, reading-fault}
use Rattle.keymap_tables.specs.Layouts.{wide}
use Rattle.keymap_tables.proofs.read.read_tables.Goals as goal

pub returns-clause-map : goal.returns-clause-map
returns-clause-map c =
    λ m is same. reading-image wide c.args.bytes.now c.read_file.result c.read_file.ensures m is (map-wide m is) same

pub returns-clause-fault : goal.returns-clause-fault
returns-clause-fault c = reading-fault wide c.args.bytes.now c.read_file.result c.read_file.ensures
