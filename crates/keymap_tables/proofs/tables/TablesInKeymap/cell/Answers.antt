use Rattle.keymap_tables.proofs.Common.{ap, sym, ◌∙◌, Layout, entry_at, slot_bytes}
use Rattle.keymap_tables.proofs.AtPlaces.{entry-in}
use Rattle.keymap_tables.proofs.ReadingLaws.{tables-at}
use Rattle.keymap_tables.proofs.tables.TablesInKeymap.cell.Goals as goal

pub returns : goal.returns
returns g c =
    λ m shows. let l = c.of.result in
    let entry = entry_at m c.args.slot in
    let fits = (tables-at _ l c.args.self.now.bytes.now m c.of.ensures shows.0 shows.1).0 in
    c.cell_in.ensures entry (entry-in l m shows.0 fits c.args.slot)
    (c.slot.ensures.bytes m shows.0 shows.1 ∙ ap (λ (k : Layout). slot_bytes k entry) (sym c.of.ensures))
