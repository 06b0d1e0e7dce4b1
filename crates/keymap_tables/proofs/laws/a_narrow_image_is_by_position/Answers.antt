use Rattle.keymap_tables.proofs.Common.{sym, ap, ◌≡◌, ◌+◌, ◌*◌, ◌∙◌, arith, slice_index, narrow}
use Rattle.keymap_tables.proofs.AtPlaces.{cell-number, number-byte}
use Rattle.keymap_tables.specs.Image.{narrow_image}
use Rattle.keymap_tables.proofs.laws.a_narrow_image_is_by_position.Goals as goal

pub returns : goal.returns
returns c =
    λ m is fits s column below inside. let place : 2 + 10 * s + column ≡ 2 + 10 * s + 1 * column = omega arith in
    ap (slice_index (narrow_image m)) place ∙ sym (number-byte (narrow_image m) (2 + 10 * s + 1 * column))
    ∙ cell-number narrow m is fits s column below inside
