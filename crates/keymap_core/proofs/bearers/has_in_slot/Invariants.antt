use Rattle.keymap_core.proofs.Common.{◌≡◌, false, holding_action, MapValue, cell_at, any_below, is_cell_of_action}
use Rattle.keymap_core.proofs.bearers.has_in_slot.Given as goal

abbrev pub invariant-loop-column : goal.invariant-loop-column
invariant-loop-column g l =
    (m : MapValue) → g.K.Keymap.shows l.map m
    → any_below (λ i. is_cell_of_action (holding_action l.holding) (cell_at m l.slot i)) l.column ≡ false
