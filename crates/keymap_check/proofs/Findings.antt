-- A map has no findings exactly if it is safe.
use Rattle.keymap_check.proofs.Common.{zero, suc, ◌≡◌, ℕ, ◌<◌, ◌++◌, List, [], ◌∷◌, Option, Some, None, refl, ap, subst}
use Rattle.keymap_check.proofs.Common.{sym, ◌∙◌, inl, inr, arith, true≢false, MapValue, IsCellOf, Act, Char}
use Rattle.keymap_check.proofs.Common.{gathered, below-suc, first_place, cell_of, finding_by, findings_at, is_some}
use Rattle.keymap_check.proofs.Common.{IsUnsafeKey, has_some, Finding, true, ◌&&◌, and_parts, ◌↔◌, holding_action}
use Rattle.std.proofs.lemmas.Bool.{and_from}
use Rattle.keymap_check.specs.Report.{NoFindingsExactlyIfSafe}
use Rattle.keymap_check.proofs.Same.{character-cell, IsHeldBy, holding-cell, holding-any}
use Rattle.keymap_check.proofs.Places.{first_place-cell, has-cell}
use Rattle.keymap_check.specs.declared.kind.Kind.TheVariants as kind

-- lists gathered from all numbers
append-none : {A : Type 0} (xs ys : List A) → xs ++ ys ≡ [] → (xs ≡ []) × (ys ≡ [])
append-none [] ys e = (refl, e)
append-none (x ∷ xs) ys e = cc

-- where nothing is gathered, no number gives something
pub gathered-all : {A : Type 0} (f : ℕ → List A) (n : ℕ) → gathered f n ≡ [] → (k : ℕ) → k < n → f k ≡ []
unfolding gathered
gathered-all f zero e = λ k lt. absurd (omega (arith, lt))
gathered-all f (suc n) e =
    λ k lt.
    let s : (gathered f n ≡ []) × (f n ≡ []) = append-none (gathered f n) (f n) e in
    elim (below-suc k n lt) [ inl l ↦ gathered-all f n s.0 k l | inr q ↦ ap f q ∙ s.1 ]

-- where no number gives something, nothing is gathered
pub all-gathered : {A : Type 0} (f : ℕ → List A) (n : ℕ) → ((k : ℕ) → k < n → f k ≡ []) → gathered f n ≡ []
unfolding gathered
all-gathered f zero e = refl
all-gathered f (suc n) e = rw (all-gathered f n (λ k lt. e k (omega (arith, lt))), e n (omega arith)) refl

-- a key has a finding exactly if both places are found
found_by : (m : MapValue) (k : ℕ) (p q : Option ℕ) → first_place m kind.AnyHolding k ≡ p
    → has_some (finding_by m k p q) ≡ (is_some p && is_some q)
found_by m k None q e = refl
found_by m k (Some p) None e = refl
found_by m k (Some p) (Some q) e =
    let held : IsHeldBy (cell_of m k p) = holding-cell (cell_of m k p) (first_place-cell m kind.AnyHolding k p e).1 in
    rw held.2 refl

-- a key has a finding if it has a holding action and a character
pub found : (m : MapValue) (k : ℕ)
    → has_some (findings_at m k)
    ≡ (is_some (first_place m kind.AnyHolding k) && is_some (first_place m kind.Character k))
found m k = found_by m k (first_place m kind.AnyHolding k) (first_place m kind.Character k) refl

-- a key has a finding exactly if it is unsafe
pub unsafe-key : (m : MapValue) (k : ℕ) → (has_some (findings_at m k) ≡ true) ↔ IsUnsafeKey m k
unsafe-key m k = (
  (λ t.
      let p = and_parts _ _ (sym (found m k) ∙ t) in
      let h = (has-cell m kind.AnyHolding k).0 p.0 in
      let c = (has-cell m kind.Character k).0 p.1 in
      let a = holding-cell h.0 h.2 in
      let char = character-cell c.0 c.2 in
      (a.0, subst (IsCellOf m k) a.1 h.1, (char.0, subst (IsCellOf m k) char.1 c.1))),
  (λ u.
      found m k ∙ and_from _ _ ((has-cell m kind.AnyHolding k).1 (Act (holding_action u.0), u.1, holding-any u.0))
      ((has-cell m kind.Character k).1 (Char u.2.0, u.2.1, refl))),
)

none_there : (fs : List Finding) → (has_some fs ≡ true → ⊥) → fs ≡ []
none_there [] f = refl
none_there (x ∷ fs) f = absurd (f refl)

-- a map has no findings exactly if it is safe
pub no_findings_exactly_if_safe : NoFindingsExactlyIfSafe
no_findings_exactly_if_safe m = (
  (λ e k lt a is c char.
      true≢false (sym ((unsafe-key m k).1 (a, is, (c, char))) ∙ ap has_some (gathered-all (findings_at m) 128 e k lt))),
  (λ safe.
      all-gathered (findings_at m) 128 (λ k lt.
      none_there (findings_at m k) (λ t.
      let u : IsUnsafeKey m k = (unsafe-key m k).0 t in safe k lt u.0 u.1 u.2.0 u.2.1))),
)
