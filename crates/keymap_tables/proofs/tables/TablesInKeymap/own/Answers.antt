use Rattle.keymap_tables.proofs.Common.{ap, sym, refl, ◌∙◌, ◌≡◌, true, false, inl, inr, length, cases_lt, Layout}
use Rattle.keymap_tables.proofs.Common.{accent_bytes, accent_or_blank, blank}
use Rattle.std.proofs.lemmas.Option.{slice_get-get_or, slice_get_past}
use Rattle.keymap_core.specs.Accents.{own_of}
use Rattle.keymap_tables.proofs.AtPlaces.{accent-in}
use Rattle.keymap_tables.proofs.ReadingLaws.{tables-at}
use Rattle.keymap_tables.proofs.tables.TablesInKeymap.own.Goals as goal

not_true : false ≡ true → ⊥
not_true e = cc

pub returns-in-Some : goal.returns-in-Some
returns-in-Some g c =
    λ m shows. let l = c.of.result in
    let accent = accent_or_blank m c.args.index in
    let fits = (tables-at _ l c.args.self.now.bytes.now m c.of.ensures shows.0 shows.1).0 in
    let defined = c.in-Some.ensures.defined m shows.0 shows.1 in
    c.own_in.ensures accent (accent-in l m shows.0 fits c.args.index)
    (c.in-Some.ensures.bytes m shows.0 shows.1 ∙ ap (λ (k : Layout). accent_bytes k accent) (sym c.of.ensures))
    ∙ ap own_of (sym (slice_get-get_or m.accents c.args.index blank (defined.0 refl)))

pub returns-in-None : goal.returns-in-None
returns-in-None g c =
    λ m shows. elim (cases_lt c.args.index (length m.accents)) [
      | inl below ↦ absurd (not_true ((c.in-None.ensures.defined m shows.0 shows.1).1 below))
      | inr past ↦ ap own_of (sym (slice_get_past m.accents c.args.index past))
    ]
