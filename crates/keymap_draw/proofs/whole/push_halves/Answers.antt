use Rattle.keymap_draw.proofs.Common.{◌++◌, ◌∙◌, ◌≡◌, ap, subst, IfOk, Lower, board_facts}
use Rattle.keymap_draw.specs.Changes.{changes_list}
use Rattle.keymap_draw.specs.Halves.{others}
use Rattle.keymap_draw.specs.Pictures.{changes_y, halves, upper}
use Rattle.keymap_draw.proofs.Loops.{four}
use Rattle.keymap_draw.proofs.whole.push_halves.Goals as goal

pub returns : goal.returns
unfolding halves
returns c =
    let d = c.args.drawing.now in
    let starts = c.args.starts in
    let listed = c.args.listed in
    let board = board_facts d Lower 16 in
    let changes = changes_list d listed.rows.now changes_y in
    let below = others d Lower starts.others listed.lower.now in
    let above = upper d listed.upper.now starts.upper in
    subst (λ fs. IfOk c.push_upper.result (λ s. s ≡ fs))
    (ap (λ l. l ++ above)
    (c.in_ok-sheet-3.ensures ∙ ap (λ l. l ++ below)
    (c.in_ok-sheet-2.ensures ∙ ap (λ l. l ++ changes) c.in_ok-sheet.ensures))
    ∙ four c.args.sheet board changes below above) c.push_upper.ensures
