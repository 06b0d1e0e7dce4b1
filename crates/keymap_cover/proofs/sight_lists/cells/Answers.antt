use Rattle.keymap_cover.proofs.Common.{◌∷◌, [], ◌++◌, ap, sym, ◌∙◌, arith, map-range_with_len_more, cell_at_place}
use Rattle.keymap_cover.proofs.Listed.{cells-listed}
use Rattle.keymap_cover.proofs.sight_lists.cells.Goals as goal

pub loop-place-preserved : goal.loop-place-preserved
loop-place-preserved c =
    let n = c.loop-place.place in
    c.in_ok-push.ensures.items ∙ ap (λ z. z ++ cell_at_place n ∷ []) c.loop-place.invariant
    ∙ sym (map-range_with_len_more cell_at_place 0 n n (omega arith))

pub returns : goal.returns
returns c = cells-listed _ _ c.loop-place.invariant (omega (arith, c.loop-place-test.false))
