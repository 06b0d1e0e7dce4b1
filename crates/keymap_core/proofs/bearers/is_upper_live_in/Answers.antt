use Rattle.keymap_core.proofs.Common.{rules, is_upper_live}
use Rattle.keymap_core.proofs.bearers.is_upper_live_in.Goals as goal

pub returns-then-has_in_half : goal.returns-then-has_in_half
unfolding is_upper_live
returns-then-has_in_half g c = λ m shows. let first = c.has_in_half.ensures m shows in search rules

pub returns-else-has_in_half : goal.returns-else-has_in_half
unfolding is_upper_live
returns-else-has_in_half g c =
    λ m shows. let first = c.has_in_half.ensures m shows in
    let second = c.has_in_half-else-has_in_half.ensures m shows in search rules
