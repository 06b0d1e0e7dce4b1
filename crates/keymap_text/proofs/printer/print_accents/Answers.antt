use Rattle.keymap_text.proofs.Common.{rules, arith, ℕ, List, length, ap, ◌∙◌, slice_index_or}
use Rattle.keymap_text.proofs.Common.{blank, Gathers-same, StopsIn-more, passed_on, accent_line}
use Rattle.keymap_text.proofs.Pieces.{lines-next, lines-cut}
use Rattle.keymap_text.proofs.printer.print_accents.Goals as goal

pub loop-index-preserved : goal.loop-index-preserved
loop-index-preserved g c = search (rules, Gathers-same, lines-next)

pub returns-in_err-push-clause-bytes : goal.returns-in_err-push-clause-bytes
returns-in_err-push-clause-bytes g c start text gathers =
    let m = c.args.map.now in
    let line : ℕ → List ℕ = λ i. accent_line i (slice_index_or m.accents i blank) in
    let i = c.loop-index.index in
    let same = c.as_slice.ensures.value ∙ c.accent_line-line.ensures
    ∙ ap (accent_line c.loop-index.index) c.accent_or_blank.ensures in
    let cut = lines-cut line i (length m.accents) text _ (omega arith) same in
    passed_on _ _ _ _ c.from_residual.ensures.1
    (StopsIn-more start _ _ _ _ _ cut.1 (c.in_err-push.ensures.bytes start _
    (c.loop-index.invariant.pushed start text gathers)))
