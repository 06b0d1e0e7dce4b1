use Rattle.keymap_draw.proofs.Common.{◌≡◌, ◌++◌, IfOk, subst, sym}
use Rattle.keymap_draw.specs.Halves.{sample}
use Rattle.keymap_draw.proofs.half.push_sample.Goals as goal

pub returns-in-Lower : goal.returns-in-Lower
returns-in-Lower c =
    subst (λ half. IfOk c.tell.result (λ s. s ≡ c.args.sheet ++ sample half c.args.y)) (sym c.in-Lower.is)
    c.tell.ensures

pub returns-in-Upper : goal.returns-in-Upper
returns-in-Upper c =
    subst (λ half. IfOk c.tell-in-Upper.result (λ s. s ≡ c.args.sheet ++ sample half c.args.y)) (sym c.in-Upper.is)
    c.tell-in-Upper.ensures
