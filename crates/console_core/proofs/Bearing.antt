-- Held, remembered and pressed: how they follow from one another.
use Rattle.console_core.proofs.Common.{◌≡◌, ℕ, ◌<◌, ◌⊎◌, Bool, true, false, not, eqb, List, [], ◌∷◌, Option, Some, None}
use Rattle.console_core.proofs.Common.{HasKeys, refl, ap, subst, sym, ◌∙◌, inl, inr, if◌then◌else◌, ◌==◌, eqb-true}
use Rattle.console_core.proofs.Common.{eq-eqb, and_parts, or_cases, cases_Bool, true≢false, both_ways, not-true}
use Rattle.console_core.proofs.Common.{option_or, none-some, same_Some, or_right, Action, Holding, Cell, Char, Act}
use Rattle.console_core.proofs.Common.{Event, Press, Release, Reset, Load, same_action, holding_action, MapValue}
use Rattle.console_core.proofs.Common.{ResolvedEvent, held, remembered, taken_over, unless_nop, is_this_action, look}
use Rattle.console_core.proofs.Common.{resolve_press, Maps, in_force, resolved, pressed, PressedCharacter}
use Rattle.console_core.proofs.Common.{PressedAction, ReleasedKey, WasReset, WasLoaded, IsCellOf, Bears}
use Rattle.console_core.proofs.Common.{same_action-true, same_action-refl, rules}
use Rattle.keymap_core.specs.Bearers.{IsAlone}
use Rattle.console_core.proofs.OneMore.{resolved-start, resolved-more, held-start, held-character, held-action}
use Rattle.console_core.proofs.OneMore.{held-release, held-reset, remembered-start, remembered-character}
use Rattle.console_core.proofs.OneMore.{remembered-action, remembered-release, remembered-reset, pressed-press}
use Rattle.console_core.proofs.OneMore.{pressed-release, held-load, remembered-load}
use Rattle.console_core.proofs.Borne.{AllLooked, resolved-looked, taken-holding}
use Rattle.keymap_core.specs.declared.action.Action.TheVariants as act

-- a conditional that forgets
kept_if : (t : Bool) (o : Option Action) (a : Action) → (if t then None else o) ≡ Some a → (t ≡ false) × (o ≡ Some a)
kept_if true o a h = absurd (none-some a h)
kept_if false o a h = (refl, h)

-- an action that is offered is the one looked up
unless_nop-some : (t : Bool) (b a : Action) → (if t then None else Some b) ≡ Some a → b ≡ a
unless_nop-some true b a h = absurd (none-some a h)
unless_nop-some false b a h = same_Some b a h

-- what is remembered after a press was so before, or is the key's look
remembered_from : (t : Bool) (o : Option Action) (b a : Action)
    → option_or o (if t then unless_nop b else None) ≡ Some a → (o ≡ Some a) ⊎ ((o ≡ None) × (t ≡ true) × (b ≡ a))
remembered_from t (Some c) b a h = inl h
remembered_from true None b a h = inr (refl, refl, unless_nop-some (same_action b act.Nop) b a h)
remembered_from false None b a h = absurd (none-some a h)

-- the first of two stays where it is there
pub first_kept : (o p : Option Action) (a : Action) → o ≡ Some a → option_or o p ≡ Some a
first_kept o p a h = rw h refl

-- what a key remembers is one of its cells
pub remembered-cell : (m : MapValue) (r : List ResolvedEvent) (k : ℕ) (a : Action) → AllLooked m r
    → remembered k r ≡ Some a → (k < 128) × IsCellOf m k (Act a)
remembered-cell m [] k a all h = absurd (none-some a (sym (remembered-start k) ∙ h))
remembered-cell m (PressedCharacter j c ∷ r) k a all h =
    remembered-cell m r k a all.1 (kept_if (j == k) (remembered k r) a (sym (remembered-character k j c r) ∙ h)).1
remembered-cell m (PressedAction j b ∷ r) k a all h =
    elim (remembered_from (j == k) (remembered k r) b a (sym (remembered-action k j b r) ∙ h)) [
      | inl s ↦ remembered-cell m r k a all.1 s
      | inr s ↦ let e : j ≡ k = eqb-true j k s.1 in (
        subst (λ x. x < 128) e all.0.0,
        subst (λ x. IsCellOf m k (Act x)) s.2 (subst (λ x. IsCellOf m x (Act b)) e all.0.1),
      )
    ]
remembered-cell m (ReleasedKey j ∷ r) k a all h =
    remembered-cell m r k a all.1 (kept_if (j == k) (remembered k r) a (sym (remembered-release k j r) ∙ h)).1
remembered-cell m (WasReset ∷ r) k a all h = absurd (none-some a (sym (remembered-reset k r) ∙ h))
remembered-cell m (WasLoaded n ∷ r) k a all h = absurd (none-some a (sym (remembered-load k n r) ∙ h))

-- a key that remembers something is pressed
pub pressed_if : (t : Bool) (x : Bool) → x ≡ true → (if t then true else x) ≡ true
pressed_if true x h = refl
pressed_if false x h = h

-- the step of the next lemma at a press, by the key's test
press-remembered : (ms : Maps) (h : List Event) (k j : ℕ) (a : Action) (x : Cell)
    → (remembered k (resolved ms h) ≡ Some a → pressed k h ≡ true)
    → remembered k (resolve_press j x ∷ resolved ms h) ≡ Some a → (if j == k then true else pressed k h) ≡ true
press-remembered ms h k j a (Char c) f r = search (rules, pressed_if, kept_if, remembered-character)
press-remembered ms h k j a (Act b) f r =
    search (rules, remembered_from, remembered-action, pressed_if)

-- a key for which an action is remembered is pressed
pub remembered-pressed : (ms : Maps) (h : List Event) (k : ℕ) (a : Action) → remembered k (resolved ms h) ≡ Some a
    → pressed k h ≡ true
remembered-pressed ms [] k a r = absurd (none-some a (sym (remembered-start k) ∙ (rw resolved-start at r)))
remembered-pressed ms (Press j ∷ h) k a r =
    pressed-press k j h
    ∙ press-remembered ms h k j a (look (in_force ms h) (resolved ms h) j) (remembered-pressed ms h k a)
    (rw (resolved-more ms h (Press j)) at r)
remembered-pressed ms (Release j ∷ h) k a r =
    let s : (j == k ≡ false) × (remembered k (resolved ms h) ≡ Some a) =
    kept_if (j == k) (remembered k (resolved ms h)) a
    (sym (remembered-release k j (resolved ms h)) ∙ (rw (resolved-more ms h (Release j)) at r)) in
    rw (pressed-release k j h, s.0) (remembered-pressed ms h k a s.1)
remembered-pressed ms (Reset ∷ h) k a r =
    absurd (none-some a (sym (remembered-reset k (resolved ms h)) ∙ (rw (resolved-more ms h Reset) at r)))
remembered-pressed ms (Load ∷ h) k a r =
    absurd (none-some a (sym (remembered-load k _ (resolved ms h)) ∙ (rw (resolved-more ms h Load) at r)))

-- a key for which an action is remembered has it among its cells, and is pressed
pub borne-pressed : (ms : Maps) (h : List Event) (a : Action) → HasKeys h
    → ((k : ℕ) × (remembered k (resolved ms h) ≡ Some a))
    → (k : ℕ) × (k < 128) × IsCellOf (in_force ms h) k (Act a) × (pressed k h ≡ true)
borne-pressed ms h a keys (k, is) = search (rules, remembered-cell, resolved-looked, remembered-pressed)

-- a holding action that is held is remembered for some key, where no bearer of it has a character
abbrev pub RememberedBySome : Holding → List ResolvedEvent → Type 0
RememberedBySome a r = (k : ℕ) × (remembered k r ≡ Some (holding_action a))

-- a holding action whose keys have no character beside it is held only while it is remembered
pub held-remembered : (m : MapValue) (a : Holding)
    → ((k : ℕ) → k < 128 → Bears m k a → (c : ℕ) → IsCellOf m k (Char c) → ⊥) → (r : List ResolvedEvent) → AllLooked m r
    → held a r ≡ true → RememberedBySome a r
held-remembered m a safe [] all h = absurd (true≢false (sym h ∙ held-start a))
held-remembered m a safe (PressedCharacter j c ∷ r) all h =
    let s : RememberedBySome a r = held-remembered m a safe r all.1 (sym (held-character a j c r) ∙ h) in
    let b : (s.0 < 128) × IsCellOf m s.0 (Act (holding_action a)) =
    remembered-cell m r s.0 (holding_action a) all.1 s.1 in
    elim (cases_Bool (j == s.0)) [
      | inl e ↦ absurd (safe s.0 b.0 b.1 c (subst (λ x. IsCellOf m x (Char c)) (eqb-true j s.0 e) all.0.1))
      | inr e ↦ (s.0, rw (remembered-character s.0 j c r, e) s.1)
    ]
held-remembered m a safe (PressedAction j b ∷ r) all h =
    elim (or_cases (same_action (taken_over (remembered j r) b) (holding_action a)) (held a r)
    (sym (held-action a j b r) ∙ h)) [
      | inl t ↦ (j, rw (remembered-action j j b r, eq-eqb j j refl) (taken-holding (remembered j r) b a t).1)
      | inr t ↦
          let s : RememberedBySome a r = held-remembered m a safe r all.1 t in
          (s.0, remembered-action s.0 j b r ∙ first_kept (remembered s.0 r) _ (holding_action a) s.1)
    ]
held-remembered m a safe (ReleasedKey j ∷ r) all h =
    let p : (held a r ≡ true) × (not (is_this_action (remembered j r) (holding_action a)) ≡ true) =
    and_parts _ _ (sym (held-release a j r) ∙ h) in
    let s : RememberedBySome a r = held-remembered m a safe r all.1 p.0 in
    elim (cases_Bool (j == s.0)) [
      | inl e ↦
          let f : remembered j r ≡ Some (holding_action a) = ap (λ x. remembered x r) (eqb-true j s.0 e) ∙ s.1 in
          absurd (both_ways (is_this_action (remembered j r) (holding_action a)) (not-true _ p.1)
          (ap (λ o. is_this_action o (holding_action a)) f ∙ same_action-refl (holding_action a)))
      | inr e ↦ (s.0, rw (remembered-release s.0 j r, e) s.1)
    ]
held-remembered m a safe (WasReset ∷ r) all h = absurd (true≢false (sym h ∙ held-reset a r))
held-remembered m a safe (WasLoaded n ∷ r) all h = absurd (true≢false (sym h ∙ held-load a n r))

-- another key doesn't remember what a key bears alone
not_other_by : (m : MapValue) (a : Holding) (k : ℕ) → IsAlone m k a → (r : List ResolvedEvent) (j : ℕ) → AllLooked m r
    → eqb j k ≡ false → (b : Action) (t : Bool) → remembered j r ≡ Some b → same_action b (holding_action a) ≡ t
    → not t ≡ true
not_other_by m a k alone r j all ne b true is e =
    let c : (j < 128) × IsCellOf m j (Act (holding_action a)) =
    remembered-cell m r j (holding_action a) all
    (is ∙ ap (λ x. Some x) (same_action-true b (holding_action a) e)) in
    absurd (true≢false (sym (eq-eqb j k (alone j c.0 c.1)) ∙ ne))
not_other_by m a k alone r j all ne b false is e = refl

-- a key other than the one that bears a holding action alone remembers another
not_other : (m : MapValue) (a : Holding) (k : ℕ) → IsAlone m k a → (r : List ResolvedEvent) (j : ℕ) → AllLooked m r
    → eqb j k ≡ false → (o : Option Action) → remembered j r ≡ o → not (is_this_action o (holding_action a)) ≡ true
not_other m a k alone r j all ne None is = refl
not_other m a k alone r j all ne (Some b) is = search (rules, not_other_by)

-- what a key that bears it alone remembers is held
pub remembered-held : (m : MapValue) (a : Holding) (k : ℕ) → IsAlone m k a → (r : List ResolvedEvent) → AllLooked m r
    → remembered k r ≡ Some (holding_action a) → held a r ≡ true
remembered-held m a k alone [] all h = absurd (none-some (holding_action a) (sym (remembered-start k) ∙ h))
remembered-held m a k alone (PressedCharacter j c ∷ r) all h =
    held-character a j c r
    ∙ remembered-held m a k alone r all.1
    (kept_if (j == k) (remembered k r) _ (sym (remembered-character k j c r) ∙ h)).1
remembered-held m a k alone (PressedAction j b ∷ r) all h =
    elim (remembered_from (j == k) (remembered k r) b (holding_action a) (sym (remembered-action k j b r) ∙ h)) [
      | inl s ↦ rw (held-action a j b r, remembered-held m a k alone r all.1 s) (or_right _ true refl)
      | inr s ↦
          let e : remembered j r ≡ None = ap (λ x. remembered x r) (eqb-true j k s.1) ∙ s.0 in
          rw (held-action a j b r, e, s.2, same_action-refl (holding_action a)) refl
    ]
remembered-held m a k alone (ReleasedKey j ∷ r) all h =
    let s : (j == k ≡ false) × (remembered k r ≡ Some (holding_action a)) =
    kept_if (j == k) (remembered k r) _ (sym (remembered-release k j r) ∙ h) in
    rw (held-release a j r, remembered-held m a k alone r all.1 s.1)
    (not_other m a k alone r j all.1 s.0 (remembered j r) refl)
remembered-held m a k alone (WasReset ∷ r) all h =
    absurd (none-some (holding_action a) (sym (remembered-reset k r) ∙ h))
remembered-held m a k alone (WasLoaded n ∷ r) all h =
    absurd (none-some (holding_action a) (sym (remembered-load k n r) ∙ h))
