use Rattle.std.proofs.Common.{arith, refl}
use Rattle.keymap_tables.proofs.Images.{first-short, first-long}
use Rattle.keymap_tables.proofs.check.check_length.Goals as goal

pub returns-then-bytes-length-clause-fault : goal.returns-then-bytes-length-clause-fault
returns-then-bytes-length-clause-fault c = first-short c.args.layout c.args.bytes.now _ (omega arith) refl refl

pub returns-then-bytes-length-2-clause-fault : goal.returns-then-bytes-length-2-clause-fault
returns-then-bytes-length-2-clause-fault c =
    first-long c.args.layout c.args.bytes.now _ (omega arith) c.file-length.ensures refl
