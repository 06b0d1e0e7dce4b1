-- The lists of all sights are what is listed to the last place.
use Rattle.keymap_cover.proofs.Common.{◌≡◌, ℕ, List, ap, ◌∙◌, map, range_with_len, Sight, cell_at_place, all_cells}
use Rattle.keymap_cover.proofs.Common.{lock_setting_at_place, all_lock_settings}

pub cells-listed : (xs : List Sight) (n : ℕ) → xs ≡ map cell_at_place (range_with_len 0 n) → n ≡ 2048 → xs ≡ all_cells
unfolding all_cells
cells-listed xs n e at = e ∙ ap (λ k. map cell_at_place (range_with_len 0 k)) at

pub lock_settings-listed : (xs : List Sight) (n : ℕ) → xs ≡ map lock_setting_at_place (range_with_len 0 n) → n ≡ 1024
    → xs ≡ all_lock_settings
unfolding all_lock_settings
lock_settings-listed xs n e at = e ∙ ap (λ k. map lock_setting_at_place (range_with_len 0 k)) at
