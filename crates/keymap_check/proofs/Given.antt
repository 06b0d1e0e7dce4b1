-- What holds of the demonstration that is given, if there is one.
use Rattle.keymap_check.proofs.Common.{◌≡◌, ℕ, List, Option, Some, None, refl, sym, ◌∙◌, IfSome, IsNone, reverse}
use Rattle.keymap_check.proofs.Common.{Modifier, Event, MapValue, NobodyBearsCellPickingLocks, HasNoTrap}
use Rattle.keymap_check.proofs.Common.{demonstration_of, HasShownTrap}
use Rattle.std.specs.Prelude.{IsSome, option_map}
use Rattle.std.proofs.lemmas.Option.{none-some}
use Rattle.keymap_check.specs.Shown.{LeavesModifierOn}
use Rattle.keymap_check.proofs.Demonstrated.{demonstrations_leave_modifiers_on}
use Rattle.keymap_check.proofs.Shown.{shown_traps_are_demonstrated}
use Rattle.keymap_check.proofs.Trapless.{none_given}

module _ {S : Type 0} (items : S → List Event) (m : MapValue) where
  -- the demonstration leaves a modifier on
  pub leaves_on : (o : Option S) → option_map items o ≡ demonstration_of m
      → IfSome o (λ s. LeavesModifierOn m (reverse (items s)))
  leaves_on None e = tt
  leaves_on (Some s) e = demonstrations_leave_modifiers_on m (items s) (sym e)

  -- where a trap is shown, there is a demonstration
  pub is_shown : (o : Option S) → option_map items o ≡ demonstration_of m → (i : Modifier) (k : ℕ)
      → HasShownTrap m i k → IsSome o
  is_shown None e i k trap = absurd (shown_traps_are_demonstrated m i k trap (sym e))
  is_shown (Some s) e i k trap = refl

  -- without locks and traps there is none
  pub is_none : (o : Option S) → option_map items o ≡ demonstration_of m → NobodyBearsCellPickingLocks m
      → ((i : Modifier) → HasNoTrap m i) → IsNone o
  is_none None e locks free = refl
  is_none (Some s) e locks free = absurd (none-some (items s) (sym (none_given m locks free) ∙ sym e))
