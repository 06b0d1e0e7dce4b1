use Rattle.keymap_draw.proofs.Common.{◌≡◌, ◌∷◌, ◌++◌, ◌∙◌, [], List, ℕ, true, false, ap, subst, sym, codes, IfOk}
use Rattle.keymap_draw.proofs.Common.{is_upper_live}
use Rattle.keymap_draw.specs.Facts.{headline_at}
use Rattle.keymap_draw.proofs.Names.{one_by_one, all_behind}
use Rattle.keymap_draw.proofs.half.push_name.Goals as goal

pub returns-then-is_upper_live : goal.returns-then-is_upper_live
returns-then-is_upper_live c =
    let live : is_upper_live c.args.drawing.now.map ≡ true =
    sym c.is_upper_live.ensures ∙ c.if-is_upper_live.true in
    let lower : List ℕ = codes ", lower half" in
    rw live (subst (λ said. IfOk c.tell.result (λ s. s ≡ c.args.sheet ++ headline_at c.args.y (codes "h") said ∷ []))
    (ap (λ name. one_by_one name lower) c.name.ensures.name ∙ all_behind c.args.drawing.now.name lower)
    c.tell.ensures)

pub returns-else-is_upper_live : goal.returns-else-is_upper_live
returns-else-is_upper_live c =
    let dead : is_upper_live c.args.drawing.now.map ≡ false =
    sym c.is_upper_live.ensures ∙ c.if-is_upper_live.false in
    rw dead (subst (λ said. IfOk c.tell-else-is_upper_live.result
    (λ s. s ≡ c.args.sheet ++ headline_at c.args.y (codes "h") said ∷ []))
    c.name-else-is_upper_live.ensures.name c.tell-else-is_upper_live.ensures)
