use Rattle.keymap_tables.proofs.Common.{rules, arith, ap, ◌∙◌, ◌++◌, length, List, ℕ, sym, append_assoc, append-nil}
use Rattle.keymap_tables.proofs.Common.{mul-zero, StopsIn-more, passed_on, count_bytes, rows_bytes}
use Rattle.keymap_core.proofs.Shared.{Gathers-same}
use Rattle.keymap_tables.proofs.Rows.{rows-next, rows-all, rows-cut}
use Rattle.keymap_tables.proofs.Sizes.{row-next, row-inside}
use Rattle.keymap_tables.proofs.write.push_table.Goals as goal

pub push-requires-in-loop-index : goal.push-requires-in-loop-index
push-requires-in-loop-index g c = search (rules, row-inside)

pub returns-in_err-push-clause-bytes : goal.returns-in_err-push-clause-bytes
returns-in_err-push-clause-bytes g c start text gathers =
    let l = c.args.layout in
    let rows = rows_bytes (g.R.Row.image l) (g.R.Row.size l) g.R.Row.MOST (g.R.Row.rows c.args.map.now) in
    let piece =
    c.as_slice.ensures.value ∙ c.count_image.ensures.bytes ∙ ap (count_bytes c.args.layout) c.count.ensures.value in
    passed_on _ _ _ _ c.from_residual.ensures.1
    (StopsIn-more start _ _ _ _ _
    (ap (λ (v : List ℕ). text ++ (v ++ rows)) (sym piece) ∙ sym (append_assoc text c.as_slice.result.now rows))
    (c.in_err-push.ensures.bytes start _ gathers))

pub loop-index-init : goal.loop-index-init
loop-index-init g c = search (rules, Gathers-same, append-nil, mul-zero)

pub loop-index-preserved : goal.loop-index-preserved
loop-index-preserved g c = search (rules, Gathers-same, rows-next, row-next)

pub returns-in_err-push-2-clause-bytes : goal.returns-in_err-push-2-clause-bytes
returns-in_err-push-2-clause-bytes g c start text gathers =
    let image = g.R.Row.image c.args.layout in
    let size = g.R.Row.size c.args.layout in
    let rows = g.R.Row.rows c.args.map.now in
    let count = count_bytes c.args.layout (length rows) in
    passed_on _ _ _ _ c.from_residual-in_err-push-2.ensures.1
    (StopsIn-more start _ _ _ _ _
    (sym (append_assoc text count (rows_bytes image size g.R.Row.MOST rows))
    ∙ rows-cut image size g.R.Row.blank g.R.Row.MOST rows c.loop-index.index _ (text ++ count) c.of.ensures
    (omega (arith, c.count.ensures)) (omega arith) c.requires.empty)
    (c.in_err-push-2.ensures.bytes start _ (c.loop-index.invariant.pushed start text gathers)))

pub returns-clause-bytes : goal.returns-clause-bytes
returns-clause-bytes g c start text gathers = search (rules, Gathers-same, rows-all, append_assoc)
