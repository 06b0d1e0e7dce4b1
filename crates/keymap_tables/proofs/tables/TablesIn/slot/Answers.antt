use Rattle.keymap_tables.proofs.Common.{arith, ◌∙◌, ap, List, ℕ, Layout, part, slot_size}
use Rattle.keymap_tables.proofs.Images.{slot-part}
use Rattle.keymap_tables.proofs.ReadingLaws.{tables-in}
use Rattle.keymap_tables.proofs.Rows.{cut-at}
use Rattle.keymap_tables.specs.Layouts.{layout_of, slot_place}
use Rattle.keymap_tables.proofs.tables.TablesIn.slot.Goals as goal

pub returns-clause-bytes : goal.returns-clause-bytes
returns-clause-bytes g c =
    λ m is are. let l = layout_of g.row.NUMBER in
    let bytes = c.args.self.now.bytes.now in
    let at = slot_place l c.args.slot in
    let shown = tables-in l bytes m is are in
    cut-at bytes at (slot_size l) _ _
    (c.slot_at-at.ensures.place ∙ ap (λ (k : Layout). slot_place k c.args.slot) c.of-layout.ensures)
    (c.slot.ensures ∙ ap slot_size c.of-layout.ensures)
    ∙ ap (λ (v : List ℕ). part v at (slot_size l)) shown.1
    ∙ slot-part l m is shown.0 c.args.slot (omega (arith, c.ranges.slot.fits))
