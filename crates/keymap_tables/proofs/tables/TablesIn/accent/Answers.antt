use Rattle.keymap_tables.proofs.Common.{arith, ◌∙◌, ◌≡◌, ap, List, ℕ, refl, true, false, Layout, part, accent_size}
use Rattle.keymap_tables.proofs.Images.{accent-part}
use Rattle.keymap_tables.proofs.ReadingLaws.{tables-in}
use Rattle.keymap_tables.proofs.Rows.{cut-at}
use Rattle.keymap_tables.specs.Layouts.{layout_of, accent_place}
use Rattle.keymap_tables.proofs.tables.TablesIn.accent.Goals as goal

not_true : false ≡ true → ⊥
not_true e = cc

pub returns-then-index-n_accs-clause-defined : goal.returns-then-index-n_accs-clause-defined
returns-then-index-n_accs-clause-defined g c =
    λ m is same. let n = c.n_accs.ensures.count m (is, same) in
    (λ t. omega (arith, n, c.if-index-n_accs.true), λ t. refl)

pub returns-then-index-n_accs-clause-bytes : goal.returns-then-index-n_accs-clause-bytes
returns-then-index-n_accs-clause-bytes g c =
    λ m is same. let l = layout_of g.row.NUMBER in
    let n = c.n_accs.ensures.count m (is, same) in
    let bytes = c.args.self.now.bytes.now in
    let at = accent_place l c.args.index in
    let shown = tables-in (layout_of g.row.NUMBER) bytes m is same in
    cut-at bytes at (accent_size l) _ _
    (c.accent_at-at.ensures.place ∙ ap (λ (k : Layout). accent_place k c.args.index) c.of-layout.ensures)
    (c.accent.ensures ∙ ap accent_size c.of-layout.ensures)
    ∙ ap (λ (v : List ℕ). part v at (accent_size l)) shown.1
    ∙ accent-part l m is shown.0 c.args.index (omega (arith, n, is.few_accents, c.if-index-n_accs.true))

pub returns-else-index-n_accs-clause-defined : goal.returns-else-index-n_accs-clause-defined
returns-else-index-n_accs-clause-defined g c =
    λ m is same. let n = c.n_accs.ensures.count m (is, same) in
    (λ t. absurd (not_true t), λ below. absurd (omega (arith, n, below, c.if-index-n_accs.false)))
