use Rattle.keymap_tables.proofs.Common.{ap, sym, ◌∙◌, length}
use Rattle.keymap_tables.proofs.Images.{length-image}
use Rattle.keymap_tables.proofs.ReadingLaws.{tables-at}
use Rattle.keymap_tables.proofs.tables.TablesIn.new.Goals as goal

pub returns-else-bytes-file-clause-of_image : goal.returns-else-bytes-file-clause-of_image
returns-else-bytes-file-clause-of_image g c =
    λ m is are. let l = c.of.result in
    let shown = tables-at _ l c.args.bytes.now m c.of.ensures is are in
    absurd (c.if-bytes-file.false (ap length shown.1 ∙ length-image l m is shown.0 ∙ sym c.file.ensures))
