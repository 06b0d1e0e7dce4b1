use Rattle.keymap_draw.proofs.Common.{◌≡◌, ◌+◌, ◌++◌, ◌∙◌, [], ◌∷◌, ap, subst, IfOk, flat_map, RUNS}
use Rattle.keymap_draw.proofs.Common.{run_keys, board_facts}
use Rattle.keymap_draw.specs.Halves.{headline, panel, sample}
use Rattle.keymap_draw.proofs.Loops.{four}
use Rattle.keymap_draw.proofs.half.push_board.Goals as goal

pub returns : goal.returns
unfolding board_facts
returns c =
    let d = c.args.drawing.now in
    let half = c.args.half in
    let y = c.args.y in
    let head = headline d half (y + 26) in
    let field = panel (y + 40) ∷ [] in
    let rows = flat_map (run_keys d half (y + 40)) RUNS in
    let shown = sample half (y + 52) in
    subst (λ fs. IfOk c.push_sample.result (λ s. s ≡ fs))
    (ap (λ l. l ++ shown)
    (c.in_ok-sheet-3.ensures ∙ ap (λ l. l ++ rows)
    (c.in_ok-sheet-2.ensures ∙ ap (λ l. l ++ field) c.in_ok-sheet.ensures))
    ∙ four c.args.sheet head field rows shown) c.push_sample.ensures
