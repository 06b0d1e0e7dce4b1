-- the codes below this one are pressed as they should
use Rattle.std.proofs.Common.{◌≡◌, ◌<◌, ℕ, false, length, slice_index_or}
use Rattle.keyboard_cover.specs.Allowed.{is_code_pressed}
use Rattle.keyboard_cover.proofs.allowed.pressed_codes.Given as goal

abbrev pub invariant-loop-code : goal.invariant-loop-code
invariant-loop-code l =
    (length l.actions ≡ 256)
    × ((c : ℕ) → c < l.code → slice_index_or l.actions c false ≡ is_code_pressed l.keyboard.groups c)
