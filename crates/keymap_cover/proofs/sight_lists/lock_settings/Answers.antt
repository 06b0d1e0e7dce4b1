use Rattle.keymap_cover.proofs.Common.{◌∷◌, [], ◌++◌, ap, sym, ◌∙◌, arith, map-range_with_len_more}
use Rattle.keymap_cover.proofs.Common.{lock_setting_at_place}
use Rattle.keymap_cover.proofs.Listed.{lock_settings-listed}
use Rattle.keymap_cover.proofs.sight_lists.lock_settings.Goals as goal

pub loop-place-preserved : goal.loop-place-preserved
loop-place-preserved c =
    let n = c.loop-place.place in
    c.in_ok-push.ensures.items ∙ ap (λ z. z ++ lock_setting_at_place n ∷ []) c.loop-place.invariant
    ∙ sym (map-range_with_len_more lock_setting_at_place 0 n n (omega arith))

pub returns : goal.returns
returns c = lock_settings-listed _ _ c.loop-place.invariant (omega (arith, c.loop-place-test.false))
