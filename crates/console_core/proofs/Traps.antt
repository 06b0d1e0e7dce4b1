-- A modifier without a trap is on only while a key that bears it is pressed.
use Rattle.console_core.proofs.Common.{◌≡◌, ℕ, ◌<◌, Bool, true, false, ◌||◌, not, List, [], ◌∷◌, Some, refl, ap, subst}
use Rattle.console_core.proofs.Common.{sym, ◌∙◌, inl, inr, ◌==◌, eqb-true, eq-eqb, and_parts, or_cases, cases_Bool}
use Rattle.console_core.proofs.Common.{true≢false, both_ways, not-true, All-tail, or_right, Modifier, LeftShift}
use Rattle.console_core.proofs.Common.{RightShift, LeftControl, RightControl, LeftAlt, RightAlt, AltShift, Meta, Cell}
use Rattle.console_core.proofs.Common.{Char, Act, Event, Press, Release, Reset, Load, same_action, MapValue}
use Rattle.console_core.proofs.Common.{IsCellOf, exactly_one, slot_of, ResolvedEvent, held, locked, on, remembered}
use Rattle.console_core.proofs.Common.{taken_over, is_this_action, look, resolve_press, Maps, in_force, resolved}
use Rattle.console_core.proofs.Common.{HasKey, HasKeys, same_action-refl, rules}
use Rattle.keymap_core.specs.Maps.{entry_at}
use Rattle.keymap_core.specs.declared.entry.LockFlag.{LockFlag}
use Rattle.console_core.specs.Columns.{flips_shift}
use Rattle.console_core.specs.Traps.{Bits, cell_with, group_bit, NobodyBearsCellPickingLocks, HasNoTrap}
use Rattle.console_core.specs.Traps.{OnOnlyWhilePressedWithoutTraps}
use Rattle.console_core.proofs.OneMore.{resolved-start, resolved-more, held-start, held-character, held-action}
use Rattle.console_core.proofs.OneMore.{held-release, held-reset, held-load, remembered-character, remembered-action}
use Rattle.console_core.proofs.OneMore.{remembered-release}
use Rattle.console_core.proofs.Borne.{AllLooked, taken-holding, held-upper, resolved-looked}
use Rattle.console_core.proofs.Bearing.{RememberedBySome, borne-pressed, remembered-cell, first_kept}
use Rattle.console_core.proofs.PlainLooks.{never-locked}
use Rattle.keymap_core.specs.declared.action.Action.TheVariants as act
use Rattle.keymap_core.specs.declared.action.Lock.TheVariants as lock
use Rattle.keymap_core.specs.declared.action.Holding.TheVariants as holding
use Rattle.keymap_core.specs.declared.entry.LockFlag.TheVariants as flag

-- the bits of the cell that is looked up, where no lock is on
abbrev pub bits_of : List ResolvedEvent → Bits
bits_of r =
    record {
      upper = on AltShift r;
      shift = on LeftShift r || on RightShift r;
      control = on LeftControl r || on RightControl r;
      alt = on LeftAlt r || on RightAlt r;
    }

-- without caps and num no flag flips
no_flip : (f : LockFlag) → flips_shift f false false ≡ false
no_flip flag.O = refl
no_flip _ = refl

exactly_one-false : (b : Bool) → exactly_one b false ≡ b
exactly_one-false true = refl
exactly_one-false false = refl

-- without locks a look follows from the modifiers alone
pub look-bits : (m : MapValue) (r : List ResolvedEvent) (k : ℕ) → locked lock.Caps r ≡ false → locked lock.Num r ≡ false
    → locked lock.Alt r ≡ false → look m r k ≡ cell_with m k (bits_of r)
unfolding look
look-bits m r k caps num alt =
    rw (
      alt,
      caps,
      num,
      exactly_one-false (held (holding.Mod AltShift) r),
      no_flip (entry_at m (slot_of k (held (holding.Mod AltShift) r))).flag,
      exactly_one-false (held (holding.Mod LeftShift) r || held (holding.Mod RightShift) r),
    )
    refl

-- a modifier that is on sets the bit of its group
on-bit : (r : List ResolvedEvent) (i : Modifier) → on i r ≡ true → group_bit i (bits_of r) ≡ true
on-bit r LeftShift e = ap (λ t. t || on RightShift r) e
on-bit r RightShift e = ap (λ t. on LeftShift r || t) e ∙ or_right _ true refl
on-bit r LeftControl e = ap (λ t. t || on RightControl r) e
on-bit r RightControl e = ap (λ t. on LeftControl r || t) e ∙ or_right _ true refl
on-bit r LeftAlt e = ap (λ t. t || on RightAlt r) e
on-bit r RightAlt e = ap (λ t. on LeftAlt r || t) e ∙ or_right _ true refl
on-bit r AltShift e = e
on-bit r Meta e = refl

-- what a press adds, by its look
press-kept : (m : MapValue) (i : Modifier) (j : ℕ) (r : List ResolvedEvent) (x : Cell) → AllLooked m r
    → (on i r ≡ true → RememberedBySome (holding.Mod i) r)
    → ((c : ℕ) → x ≡ Char c → on i r ≡ true → IsCellOf m j (Act (act.Mod i)) → j < 128 → ⊥)
    → on i (resolve_press j x ∷ r) ≡ true → RememberedBySome (holding.Mod i) (resolve_press j x ∷ r)
press-kept m i j r (Char c) all f trap h =
    search (rules, held-character, remembered-cell, cases_Bool, eqb-true, remembered-character)
press-kept m i j r (Act b) all f trap h =
    elim (or_cases (same_action (taken_over (remembered j r) b) (act.Mod i)) (on i r)
    (sym (held-action (holding.Mod i) j b r) ∙ h)) [
      | inl t ↦
          (j, rw (remembered-action j j b r, eq-eqb j j refl) (taken-holding (remembered j r) b (holding.Mod i) t).1)
      | inr t ↦
          let s : RememberedBySome (holding.Mod i) r = f t in
          (s.0, remembered-action s.0 j b r ∙ first_kept (remembered s.0 r) _ (act.Mod i) s.1)
    ]

-- without locks and traps a modifier that is on is remembered
pub on-remembered : (ms : Maps) (h : List Event) → NobodyBearsCellPickingLocks (in_force ms h) → (i : Modifier)
    → HasNoTrap (in_force ms h) i → HasKeys h → on i (resolved ms h) ≡ true
    → RememberedBySome (holding.Mod i) (resolved ms h)
on-remembered ms [] locks i free keys e = search (rules, true≢false, resolved-start, held-start)
on-remembered ms (Press j ∷ h) locks i free keys e =
    let rest : HasKeys h = All-tail HasKey (Press j) h keys in
    let m : MapValue = in_force ms h in
    let all : AllLooked (in_force ms h) (resolved ms h) = resolved-looked ms h rest in
    let seen : look (in_force ms h) (resolved ms h) j ≡ cell_with (in_force ms h) j (bits_of (resolved ms h)) =
    look-bits (in_force ms h) (resolved ms h) j (never-locked (in_force ms h) lock.Caps locks.0 (resolved ms h) all)
    (never-locked (in_force ms h) lock.Num locks.1 (resolved ms h) all)
    (never-locked (in_force ms h) lock.Alt locks.2 (resolved ms h) all) in
    rw (resolved-more ms h (Press j))
    (press-kept (in_force ms h) i j (resolved ms h) (look (in_force ms h) (resolved ms h) j) all
    (on-remembered ms h locks i free rest)
    (λ c is o bears lt.
    free j lt (
      bears,
      (
        bits_of (resolved ms h),
        c,
        (λ u. held-upper (in_force ms h) (holding.Mod AltShift) (λ k lt low. (k, lt, inl low)) (resolved ms h)
            all u),
        on-bit (resolved ms h) i o,
        sym seen ∙ is,
      ),
    ))
    (subst (λ r. on i r ≡ true) (resolved-more ms h (Press j)) e))
on-remembered ms (Release j ∷ h) locks i free keys e =
    let p : (on i (resolved ms h) ≡ true) × (not (is_this_action (remembered j (resolved ms h)) (act.Mod i)) ≡ true) =
    and_parts _ _
    (cc (held-release (holding.Mod i) j (resolved ms h), resolved-more ms h (Release j), e)) in
    let s : RememberedBySome (holding.Mod i) (resolved ms h) =
    on-remembered ms h locks i free (All-tail HasKey (Release j) h keys) p.0 in
    rw (resolved-more ms h (Release j))
    (elim (cases_Bool (j == s.0)) [
      | inl q ↦
          let f : remembered j (resolved ms h) ≡ Some (act.Mod i) =
          ap (λ x. remembered x (resolved ms h)) (eqb-true j s.0 q) ∙ s.1 in
          absurd (both_ways (is_this_action (remembered j (resolved ms h)) (act.Mod i)) (not-true _ p.1)
          (ap (λ o. is_this_action o (act.Mod i)) f ∙ same_action-refl (act.Mod i)))
      | inr q ↦ (s.0, rw (remembered-release s.0 j (resolved ms h), q) s.1)
    ])
on-remembered ms (Reset ∷ h) locks i free keys e = search (rules, true≢false, resolved-more, held-reset)
on-remembered ms (Load ∷ h) locks i free keys e = search (rules, true≢false, resolved-more, held-load)

-- without locks and traps a modifier is on only while a key that bears it is pressed
pub on_only_while_pressed_without_traps : OnOnlyWhilePressedWithoutTraps
on_only_while_pressed_without_traps ms h keys locks i free e =
    borne-pressed ms h (act.Mod i) keys (on-remembered ms h locks i free keys e)
