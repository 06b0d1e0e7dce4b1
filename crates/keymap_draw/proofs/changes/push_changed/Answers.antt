use Rattle.keymap_draw.proofs.Common.{◌≡◌, ◌==◌, ◌++◌, ◌∷◌, [], ◌∙◌, ap, codes, subst, sym, true, length, IfOk}
use Rattle.keymap_draw.specs.Changes.{changed_from}
use Rattle.keymap_draw.specs.Facts.{headline_at}
use Rattle.keymap_draw.proofs.changes.push_changed.Goals as goal

pub returns-then-is_empty : goal.returns-then-is_empty
returns-then-is_empty c =
    let none : (length c.args.drawing.now.lines == 0) ≡ true =
    ap (λ lines. length lines == 0) (sym c.lines-lines.ensures) ∙ sym c.is_empty.ensures ∙ c.if-is_empty.true in
    rw none (subst (λ name. IfOk c.tell.result (λ s. s
    ≡ c.args.sheet ++ headline_at c.args.y (codes "h") (changed_from name ++ codes "nothing") ∷ []))
    c.old_name-name.ensures.name c.tell.ensures)
