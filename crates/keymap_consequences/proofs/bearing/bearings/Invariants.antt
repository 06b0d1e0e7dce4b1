-- the bearers of the modifiers and locks before this one are listed
use Rattle.keymap_consequences.proofs.Common.{◌≡◌}
use Rattle.keymap_core.specs.Actions.{holding_index}
use Rattle.keymap_core.specs.declared.action.Holding.{Holding}
use Rattle.keymap_consequences.proofs.Listing.{StandBelow}
use Rattle.keymap_consequences.specs.Consequences.{IsBearing, IsBorneOtherwise}
use Rattle.keymap_consequences.specs.declared.bearing.Bearing.{Bearing}
use Rattle.keymap_consequences.proofs.bearing.bearings.Given as goal

abbrev pub invariant-loop-index : goal.invariant-loop-index
invariant-loop-index l =
    StandBelow (λ (b : Bearing). holding_index b.holding) (IsBearing l.old.map.now l.new.map.now)
    (λ i. (a : Holding) × (holding_index a ≡ i) × IsBorneOtherwise l.old.map.now l.new.map.now a)
    l.index l.bearings.items
