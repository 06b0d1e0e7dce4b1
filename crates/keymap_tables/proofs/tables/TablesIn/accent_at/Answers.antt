use Rattle.keymap_tables.proofs.Common.{ap, sym, ◌∙◌, Layout, accent_bytes, accent_or_blank}
use Rattle.keymap_tables.proofs.AccentImages.{same-accent, accents-are}
use Rattle.keymap_tables.proofs.AtPlaces.{faultless, accent-in}
use Rattle.keymap_tables.proofs.ReadingLaws.{tables-at}
use Rattle.keymap_tables.proofs.tables.TablesIn.accent_at.Goals as goal

pub returns-in-Ok : goal.returns-in-Ok
returns-in-Ok g c =
    λ m shows. let l = c.of.result in
    let accent = accent_or_blank m c.args.index in
    let fits = (tables-at _ l c.args.self.now.bytes.now m c.of.ensures shows.0 shows.1).0 in
    same-accent l c.in-Ok.accent accent c.in-Ok.ensures.known (accent-in l m shows.0 fits c.args.index)
    (sym c.in-Ok.ensures.image ∙ c.in-Some.ensures.bytes m shows.0 shows.1
    ∙ ap (λ (k : Layout). accent_bytes k accent) (sym c.of.ensures))

pub returns-in-Err : goal.returns-in-Err
returns-in-Err g c =
    λ m shows. let l = c.of.result in
    let accent = accent_or_blank m c.args.index in
    let fits = (tables-at _ l c.args.self.now.bytes.now m c.of.ensures shows.0 shows.1).0 in
    absurd (faultless (accents-are l) accent c.in-Some.bytes.now c.in-Err.field-0
    (accent-in l m shows.0 fits c.args.index) (c.in-Some.ensures.bytes m shows.0 shows.1
    ∙ ap (λ (k : Layout). accent_bytes k accent) (sym c.of.ensures)) c.in-Err.ensures.fault)
