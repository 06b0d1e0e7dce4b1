use Rattle.keymap_core.proofs.Common.{rules, is_borne}
use Rattle.keymap_core.proofs.bearers.is_borne_in.Goals as goal

pub returns-then-has_in_half : goal.returns-then-has_in_half
unfolding is_borne
returns-then-has_in_half g c = λ m shows. let first = c.has_in_half.ensures m shows in search rules

pub returns-then-is_upper_live_in : goal.returns-then-is_upper_live_in
unfolding is_borne
returns-then-is_upper_live_in g c =
    λ m shows. let first = c.has_in_half.ensures m shows in
    let live = c.is_upper_live_in.ensures m shows in
    let second = c.has_in_half-then-is_upper_live_in.ensures m shows in search rules

pub returns-else-is_upper_live_in : goal.returns-else-is_upper_live_in
unfolding is_borne
returns-else-is_upper_live_in g c =
    λ m shows. let first = c.has_in_half.ensures m shows in
    let live = c.is_upper_live_in.ensures m shows in search rules
