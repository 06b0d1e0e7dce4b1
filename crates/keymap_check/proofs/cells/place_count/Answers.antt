use Rattle.keymap_check.proofs.Common.{refl, place_count}
use Rattle.keymap_check.proofs.cells.place_count.Goals as goal

pub returns-then-is_upper_live_in-clause-value : goal.returns-then-is_upper_live_in-clause-value
unfolding place_count
returns-then-is_upper_live_in-clause-value g c =
    λ m shows. rw (← c.is_upper_live_in.ensures m shows, c.if-is_upper_live_in.true) refl

pub returns-else-is_upper_live_in-clause-value : goal.returns-else-is_upper_live_in-clause-value
unfolding place_count
returns-else-is_upper_live_in-clause-value g c =
    λ m shows. rw (← c.is_upper_live_in.ensures m shows, c.if-is_upper_live_in.false) refl
