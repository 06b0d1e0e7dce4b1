use Rattle.keymap_draw.proofs.Common.{◌≡◌, ◌++◌, ◌∙◌, [], ◌∷◌, true, false, ap, codes, subst, IfOk, table}
use Rattle.keymap_draw.specs.Facts.{group}
use Rattle.keymap_draw.specs.Facts.Fact.{End}
use Rattle.keymap_draw.specs.Lists.{line}
use Rattle.keymap_draw.proofs.Loops.{five}
use Rattle.keymap_draw.proofs.lists.push_table.Goals as goal

pub returns : goal.returns
unfolding table
returns c =
    let bases = line false 32 c.args.pairs.now in
    let results = line true c.args.own c.args.pairs.now in
    let first = group (codes "i") (codes "124") (codes "17") ∷ [] in
    let second = End ∷ group (codes "j") (codes "124") (codes "39") ∷ [] in
    let end = End ∷ End ∷ [] in
    subst (λ fs. IfOk c.tell-3.result (λ s. s ≡ fs))
    (ap (λ l. l ++ end) (c.in_ok-sheet-4.ensures ∙ ap (λ l. l ++ results)
    (c.in_ok-sheet-3.ensures ∙ ap (λ l. l ++ second)
    (c.in_ok-sheet-2.ensures ∙ ap (λ l. l ++ bases) c.in_ok-sheet.ensures)))
    ∙ five c.args.sheet first bases second results end) c.tell-3.ensures
