use Rattle.std.proofs.Common.{arith, ap, ◌∙◌}
use Rattle.keymap_tables.proofs.AtPlaces.{accents-counted}
use Rattle.keymap_tables.proofs.ReadingLaws.{tables-in}
use Rattle.keymap_tables.specs.Layouts.{n_accs_place, layout_of}
use Rattle.keymap_tables.proofs.tables.TablesIn.n_accs.Goals as goal

pub returns-clause-count : goal.returns-clause-count
returns-clause-count g c =
    λ m shows. let l = layout_of g.row.NUMBER in
    let bytes = c.args.self.now.bytes.now in
    let shown = tables-in l bytes m shows.0 shows.1 in
    let n =
    accents-counted l bytes _ _ (c.n_accs_at-at.ensures
    ∙ ap n_accs_place c.of.ensures) c.read_half-n_accs.ensures m shows.0
    shown.0 shown.1 in
    omega (arith, n, c.min.ensures, shows.0.few_accents)
