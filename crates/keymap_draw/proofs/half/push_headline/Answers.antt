use Rattle.keymap_draw.proofs.Common.{◌≡◌, ◌++◌, IfOk, subst, sym}
use Rattle.keymap_draw.specs.Halves.{headline}
use Rattle.keymap_draw.proofs.half.push_headline.Goals as goal

pub returns-in-Upper : goal.returns-in-Upper
returns-in-Upper c =
    subst (λ half. IfOk c.tell.result (λ s. s ≡ c.args.sheet ++ headline c.args.drawing.now half c.args.y))
    (sym c.in-Upper.is) c.tell.ensures
