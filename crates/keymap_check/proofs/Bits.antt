-- The bits of the cell that is looked up, where no lock is on.
use Rattle.keymap_check.proofs.Common.{◌≡◌, ℕ, true, ◌||◌, List, [], ◌∷◌, None, refl, ap, ◌∙◌, Modifier, LeftShift}
use Rattle.keymap_check.proofs.Common.{RightShift, LeftControl, RightControl, LeftAlt, RightAlt, AltShift, on, rules}
use Rattle.keymap_check.proofs.Common.{remembered, PressedAction, bits_of, group_of, with_bit, or_right}
use Rattle.keymap_core.specs.Actions.{same_modifier}
use Rattle.console_core.specs.Resolved.{ResolvedEvent}
use Rattle.console_core.proofs.Shared.{held-action, held-start}
use Rattle.keymap_check.specs.Shown.{no_bits}
use Rattle.keymap_core.specs.declared.action.Action.TheVariants as act
use Rattle.keymap_core.specs.declared.action.Holding.TheVariants as holding

-- the bits after one more press that raises a modifier
on-more : (i y : Modifier) (j : ℕ) (r : List ResolvedEvent) → remembered j r ≡ None
    → on i (PressedAction j (act.Mod y) ∷ r) ≡ (same_modifier y i || on i r)
on-more i y j r e = held-action (holding.Mod i) j (act.Mod y) r ∙ rw e refl

-- a further modifier that is on sets the bit of its group
bits-added : (y : Modifier) (r : List ResolvedEvent) → record {
  upper = same_modifier y AltShift || on AltShift r;
  shift = (same_modifier y LeftShift || on LeftShift r) || (same_modifier y RightShift || on RightShift r);
  control = (same_modifier y LeftControl || on LeftControl r) || (same_modifier y RightControl || on RightControl r);
  alt = (same_modifier y LeftAlt || on LeftAlt r) || (same_modifier y RightAlt || on RightAlt r);
} ≡ with_bit (group_of y) (bits_of r)
bits-added RightShift r = ap (λ b. record (bits_of r) { shift = b }) (or_right (on LeftShift r) true refl)
bits-added RightControl r = ap (λ b. record (bits_of r) { control = b }) (or_right (on LeftControl r) true refl)
bits-added RightAlt r = ap (λ b. record (bits_of r) { alt = b }) (or_right (on LeftAlt r) true refl)
bits-added _ r = refl

-- a press of one more modifier sets the bit of its group
pub bits-more : (y : Modifier) (j : ℕ) (r : List ResolvedEvent) → remembered j r ≡ None
    → bits_of (PressedAction j (act.Mod y) ∷ r) ≡ with_bit (group_of y) (bits_of r)
bits-more y j r e = search (rules, on-more, bits-added)

-- no modifier is on at the start
pub bits-start : bits_of [] ≡ no_bits
bits-start = search (rules, held-start)
