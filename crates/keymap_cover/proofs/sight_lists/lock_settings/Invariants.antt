-- the lock settings below the place are there
use Rattle.keymap_cover.proofs.Common.{◌≡◌, map, range_with_len, lock_setting_at_place}
use Rattle.keymap_cover.proofs.sight_lists.lock_settings.Given as goal

abbrev pub invariant-loop-place : goal.invariant-loop-place
invariant-loop-place l = l.sights.items ≡ map lock_setting_at_place (range_with_len 0 l.place)
