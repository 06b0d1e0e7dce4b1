use Rattle.keymap_core.proofs.Common.{◌≡◌, ◌+◌, false, holding_action, MapValue, any_below, has_in_slot}
use Rattle.keymap_core.proofs.bearers.has_in_half.Given as goal

abbrev pub invariant-loop-key : goal.invariant-loop-key
invariant-loop-key g l =
    (m : MapValue) → g.K.Keymap.shows l.map m
    → any_below (λ k. has_in_slot m (holding_action l.holding) (k + l.from)) l.key ≡ false
