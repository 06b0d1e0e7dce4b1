use Rattle.keymap_tables.proofs.Common.{◌∙◌, ap, sym, subst, MapValue, List, ℕ, IsFirstFault, fault_at}
use Rattle.keymap_tables.proofs.Images.{first-content, same-map}
use Rattle.keymap_tables.proofs.ReadingLaws.{tables-at, no-fault}
use Rattle.keymap_tables.specs.Layouts.{file_size}
use Rattle.keymap_tables.proofs.tables.TablesIn.define_all.Goals as goal

pub returns-in-Ok : goal.returns-in-Ok
returns-in-Ok g c =
    λ m shows empty. let l = c.of.result in
    let shown = tables-at _ l c.args.self.now.bytes.now m c.of.ensures shows.0 shows.1 in
    let taken = c.in-Ok.ensures.taken in
    subst (λ (n : MapValue). g.D.Definitions.shows c.read_content.new.into n)
    (same-map l taken.0 m taken.1 taken.2 shows.0 shown.0 (sym taken.3 ∙ shown.1)) (taken.4 empty)

pub returns-in-Err : goal.returns-in-Err
returns-in-Err g c =
    λ m shows empty. let l = c.of.result in
    let bytes = c.args.self.now.bytes.now in
    let shown = tables-at _ l bytes m c.of.ensures shows.0 shows.1 in
    let whole = c.args.self.now.whole ∙ ap file_size (sym c.of.ensures) in
    let fault = first-content l bytes c.in-Err.field-0 whole c.in-Err.ensures.fault in
    absurd (no-fault l m c.in-Err.field-0 shows.0 shown.0
    (subst (λ (v : List ℕ). IsFirstFault (fault_at l v) c.in-Err.field-0) shown.1 fault))
