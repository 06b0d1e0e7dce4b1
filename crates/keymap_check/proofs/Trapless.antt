-- Where no key has a trap, no script that is tried leaves a modifier on.
use Rattle.keymap_check.proofs.Common.{◌≡◌, ℕ, ◌<◌, true, false, List, None, subst, sym, ◌∙◌, reverse, true≢false}
use Rattle.keymap_check.proofs.Common.{false_from_ne_true, no-modifiers, Modifier, Event, MapValue, Bears, between}
use Rattle.keymap_check.proofs.Common.{is_on_after, pressed, IsQuiet, NobodyBearsCellPickingLocks, HasNoTrap, bit_keys}
use Rattle.keymap_check.proofs.Common.{script, tried, leaves_modifier_on, demonstration_of}
use Rattle.keymap_core.proofs.Shared.{find-true, none_unless}
use Rattle.console_core.specs.History.{in_force, HasKeys}
use Rattle.console_core.proofs.Shared.{on_only_while_pressed_without_traps, one_in_force}
use Rattle.keymap_check.proofs.Quiet.{script-quiet}
use Rattle.keymap_check.proofs.TriedScripts.{given-holds, script-keys}
use Rattle.keymap_core.specs.declared.action.Holding.TheVariants as holding

module _ (m : MapValue) (locks : NobodyBearsCellPickingLocks m) (free : (i : Modifier) → HasNoTrap m i) where
  -- a quiet list leaves no modifier on
  off-quiet : (h : List Event) → HasKeys h → IsQuiet h → (i : Modifier) → is_on_after (between m m) i h ≡ false
  off-quiet h keys quiet i =
      false_from_ne_true (is_on_after (between m m) i h) (λ e.
      let same : m ≡ in_force (between m m) h = sym (one_in_force m h) in
      let s : (k : ℕ) × (k < 128) × Bears (in_force (between m m) h) k (holding.Mod i) × (pressed k h ≡ true) =
      on_only_while_pressed_without_traps (between m m) h keys (subst NobodyBearsCellPickingLocks same locks) i
      (subst (λ n. HasNoTrap n i) same (free i)) e in
      true≢false (sym s.3 ∙ quiet s.0 s.1))

  -- no script of a key leaves a modifier on
  script-fails : (k a b : ℕ) → k < 128 → leaves_modifier_on m (script (bit_keys m k) k a b) ≡ false
  script-fails k a b lt =
      let h = reverse (script (bit_keys m k) k a b) in
      no-modifiers (λ i. is_on_after (between m m) i h)
      (off-quiet h (script-keys m k a b lt) (script-quiet (bit_keys m k) k a b))

  -- no demonstration is given
  pub none_given : demonstration_of m ≡ None
  none_given =
      none_unless (demonstration_of m) (λ s e.
      true≢false (sym (find-true (leaves_modifier_on m) (tried m) s e)
      ∙ given-holds m (leaves_modifier_on m) s (λ s. leaves_modifier_on m s ≡ false) script-fails e))
