-- the keys below this one that are refused alone are named
use Rattle.keymap_core.specs.Maps.{MapValue}
use Rattle.keymap_check.specs.Findings.{AreFindings}
use Rattle.keymap_consequences.proofs.Listing.{StandBelow}
use Rattle.keymap_consequences.specs.Consequences.{IsRefused, IsUnsafeAlone}
use Rattle.keymap_consequences.specs.declared.refused.Refused.{Refused}
use Rattle.keymap_consequences.proofs.refused.refused_alone.Given as goal

abbrev pub invariant-loop-key : goal.invariant-loop-key
invariant-loop-key l =
    (m : MapValue) → AreFindings m l.others
    → StandBelow (λ (r : Refused). r.key) (λ r. IsRefused l.map r × IsUnsafeAlone m l.map r.key)
    (IsUnsafeAlone m l.map) l.key l.refused.items
