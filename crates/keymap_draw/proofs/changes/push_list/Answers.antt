use Rattle.keymap_draw.proofs.Common.{◌≡◌, ◌==◌, ◌++◌, ◌∙◌, ap, append_assoc, subst, sym, false, length, numbered, IfOk}
use Rattle.keymap_draw.specs.Changes.{listed_row, marks_said}
use Rattle.keymap_draw.proofs.changes.push_list.Goals as goal

pub returns-in_ok-sheet : goal.returns-in_ok-sheet
returns-in_ok-sheet c =
    let rows = numbered (listed_row c.args.y) 0 c.args.rows.now in
    let marks = listed_row c.args.y (length c.args.rows.now) marks_said in
    let some : (length c.args.rows.now == 0) ≡ false = sym c.is_empty.ensures ∙ c.if-is_empty.false in
    rw some (subst (λ fs. IfOk c.tell.result (λ s. s ≡ fs))
    (ap (λ l. l ++ marks) c.in_ok-sheet.ensures ∙ append_assoc c.args.sheet rows marks) c.tell.ensures)
