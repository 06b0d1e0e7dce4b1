use Rattle.keymap_draw.proofs.Common.{◌≡◌, ◌++◌, ◌∙◌, ap, append_assoc, length, subst, IfOk, numbered, other_key}
use Rattle.keymap_draw.specs.Halves.{others_line}
use Rattle.keymap_draw.proofs.half.push_other_keys.Goals as goal

pub returns : goal.returns
returns c =
    let keys = numbered (other_key c.args.drawing.now c.args.half c.args.y) 0 c.args.keys.now in
    subst (λ fs. IfOk c.push_each_other.result (λ s. s ≡ fs))
    (ap (λ l. l ++ keys) c.in_ok-sheet.ensures
    ∙ append_assoc c.args.sheet (others_line c.args.y (length c.args.keys.now)) keys) c.push_each_other.ensures
