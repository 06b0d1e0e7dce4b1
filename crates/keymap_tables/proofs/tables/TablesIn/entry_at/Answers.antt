use Rattle.keymap_tables.proofs.Common.{ap, sym, ◌∙◌, Layout, entry_at, slot_bytes}
use Rattle.keymap_tables.proofs.AtPlaces.{faultless, entry-in}
use Rattle.keymap_tables.proofs.ReadingLaws.{tables-at}
use Rattle.keymap_tables.proofs.SlotImages.{same-entry, slots-are}
use Rattle.keymap_tables.proofs.tables.TablesIn.entry_at.Goals as goal

pub returns-in-Ok : goal.returns-in-Ok
returns-in-Ok g c =
    λ m shows. let l = c.of.result in
    let entry = entry_at m c.args.slot in
    let fits = (tables-at _ l c.args.self.now.bytes.now m c.of.ensures shows.0 shows.1).0 in
    same-entry l c.in-Ok.entry entry c.in-Ok.ensures.known (entry-in l m shows.0 fits c.args.slot)
    (sym c.in-Ok.ensures.image ∙ c.slot.ensures.bytes m shows.0 shows.1
    ∙ ap (λ (k : Layout). slot_bytes k entry) (sym c.of.ensures))

pub returns-in-Err : goal.returns-in-Err
returns-in-Err g c =
    λ m shows. let l = c.of.result in
    let entry = entry_at m c.args.slot in
    let fits = (tables-at _ l c.args.self.now.bytes.now m c.of.ensures shows.0 shows.1).0 in
    absurd (faultless (slots-are l) entry c.slot.result.now c.in-Err.field-0 (entry-in l m shows.0 fits c.args.slot)
    (c.slot.ensures.bytes m shows.0 shows.1 ∙ ap (λ (k : Layout). slot_bytes k entry) (sym c.of.ensures))
    c.in-Err.ensures.fault)
