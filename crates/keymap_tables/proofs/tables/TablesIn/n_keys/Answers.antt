use Rattle.std.proofs.Common.{arith, ap, ◌∙◌}
use Rattle.keymap_tables.proofs.AtPlaces.{keys-counted}
use Rattle.keymap_tables.proofs.ReadingLaws.{tables-in}
use Rattle.keymap_tables.specs.Layouts.{count_size, layout_of}
use Rattle.keymap_tables.proofs.tables.TablesIn.n_keys.Goals as goal

pub returns-clause-count : goal.returns-clause-count
returns-clause-count g c =
    λ m shows. let l = layout_of g.row.NUMBER in
    let bytes = c.args.self.now.bytes.now in
    let shown = tables-in l bytes m shows.0 shows.1 in
    let n =
    keys-counted l bytes _ _ (c.count.ensures ∙ ap count_size c.of-layout.ensures) c.read_half.ensures m shows.0
    shown.0 shown.1 in
    omega (arith, n, c.min.ensures, shows.0.few_entries)
