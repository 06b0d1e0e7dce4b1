use Rattle.keymap_text.proofs.Common.{rules, arith, ℕ, List, length, ap, ◌∙◌, entry_at, Gathers-same, StopsIn-more}
use Rattle.keymap_text.proofs.Common.{passed_on, key_line}
use Rattle.keymap_text.proofs.Pieces.{lines-next, lines-cut}
use Rattle.keymap_text.proofs.printer.print_keys.Goals as goal

pub loop-slot-preserved : goal.loop-slot-preserved
loop-slot-preserved g c = search (rules, Gathers-same, lines-next)

pub returns-in_err-push-clause-bytes : goal.returns-in_err-push-clause-bytes
returns-in_err-push-clause-bytes g c start text gathers =
    let m = c.args.map.now in
    let line : ℕ → List ℕ = λ i. key_line i (entry_at m i) in
    let i = c.loop-slot.slot in
    let same = c.as_slice.ensures.value ∙ c.key_line-line.ensures ∙ ap (key_line c.loop-slot.slot) c.entry.ensures in
    let cut = lines-cut line i (length m.entries) text _ (omega arith) same in
    passed_on _ _ _ _ c.from_residual.ensures.1
    (StopsIn-more start _ _ _ _ _ cut.1 (c.in_err-push.ensures.bytes start _
    (c.loop-slot.invariant.pushed start text gathers)))
