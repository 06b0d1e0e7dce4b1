use Rattle.keymap_consequences.proofs.Common.{◌≡◌, ◌∙◌, ap, arith, subst, sym}
use Rattle.keymap_core.specs.Actions.{holding_index}
use Rattle.keymap_core.specs.declared.action.Holding.{Holding}
use Rattle.keymap_consequences.proofs.Holders.{index-same, index-small}
use Rattle.keymap_consequences.proofs.Listing.{stand-all, stand-none, stand-push, stand-skip}
use Rattle.keymap_consequences.specs.Consequences.{IsBorneOtherwise}
use Rattle.keymap_consequences.proofs.bearing.bearings.Goals.{then-is_borne_otherwise+in_ok-bearing_of+in_ok-push}
use Rattle.keymap_consequences.proofs.bearing.bearings.Goals.{else-is_borne_otherwise}
use Rattle.keymap_consequences.proofs.bearing.bearings.Goals as goal

pub loop-index-init : goal.loop-index-init
loop-index-init c = rw (c.new-bearings.ensures.items) (stand-none _ _ _)

pub loop-index-preserved : goal.loop-index-preserved
loop-index-preserved c = elim c.if-is_borne_otherwise.branch [
  | then-is_borne_otherwise+in_ok-bearing_of+in_ok-push w ↦
      rw (w.bearings-is, w.in_ok-push.ensures.items)
      (stand-push _ _ _ c.loop-index.index c.loop-index.bearings.items _ c.loop-index.invariant
      (ap holding_index w.in_ok-bearing_of.ensures.holding ∙ c.holding_at-holding.ensures)
      w.in_ok-bearing_of.ensures.bearing)
  | else-is_borne_otherwise w ↦
      rw w.bearings-is
      (stand-skip _ _ _ c.loop-index.index c.loop-index.bearings.items c.loop-index.invariant
      (λ there.
      let (a, at, other) = there in
      c.is_borne_otherwise.ensures.alike w.if-is_borne_otherwise.false
      (subst (λ h. IsBorneOtherwise c.of-old.result.map.now c.of-new.result.map.now h)
      (index-same a c.holding_at-holding.result (at ∙ sym c.holding_at-holding.ensures)) other)))
]

pub returns : goal.returns
returns c =
    rw (← c.of-old.ensures.map, ← c.of-new.ensures.map)
    (stand-all _ _ _ c.loop-index.index c.loop-index.bearings.items c.loop-index.invariant
    (λ i wanted.
    let (a, at, other) = wanted in
    let small = index-small a in omega (arith, at, small, c.loop-index-test.false)))
