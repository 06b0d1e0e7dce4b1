-- The first of a gathered list that passes a test.
use Rattle.keymap_check.proofs.Common.{zero, suc, ◌≡◌, ℕ, ◌<◌, ◌+◌, Bool, List, Option, Some, None, refl, ap, subst}
use Rattle.keymap_check.proofs.Common.{sym, ◌∙◌, inl, inr, arith, add-one, find, option_or, gathered, below-suc}
use Rattle.keymap_check.proofs.Common.{gathered-none}
use Rattle.std.proofs.lemmas.List.Folds.{find-append}
use Rattle.std.proofs.lemmas.Option.{none-some}

-- where neither is given, neither is there
none-both : {A : Type 0} (o p : Option A) → option_or o p ≡ None → (o ≡ None) × (p ≡ None)
none-both None p e = (refl, e)
none-both (Some x) p e = cc

module _ {A : Type 0} (test : A → Bool) where
  -- what is found below n + 1 is found below n, or else in the list n
  find-more : (f : ℕ → List A) (n : ℕ)
      → find test (gathered f (suc n)) ≡ option_or (find test (gathered f n)) (find test (f n))
  unfolding gathered
  find-more f n = find-append test (gathered f n) (f n)

  -- nothing is found before a list is tried
  pub try-start : (f : ℕ → List A) → find test (gathered f 0) ≡ None
  try-start f = ap (find test) (gathered-none f)

  -- where nothing is found below n, nor in the list n, nothing is below n + 1
  pub try-more : (f : ℕ → List A) (n : ℕ) → find test (gathered f n) ≡ None → find test (f n) ≡ None
      → find test (gathered f (n + 1)) ≡ None
  try-more f n e g = rw (add-one, find-more f n, e, g) refl

  -- after all numbers
  pub try-none : (f : ℕ → List A) (i n : ℕ) → i ≡ n → find test (gathered f i) ≡ None → None ≡ find test (gathered f n)
  try-none f i n e none = sym (ap (λ k. find test (gathered f k)) (sym e) ∙ none)

  -- the first found in the list i, where nothing is before it, is the first of all
  pub try-found : (f : ℕ → List A) (i n : ℕ) (s : A) → i < n → find test (gathered f i) ≡ None
      → find test (f i) ≡ Some s → find test (gathered f n) ≡ Some s
  try-found f i zero s lt e g = absurd (omega (arith, lt))
  try-found f i (suc n) s lt e g =
      find-more f n
      ∙ elim (below-suc i n lt) [
        | inl l ↦ ap (λ o. option_or o (find test (f n))) (try-found f i n s l e g)
        | inr q ↦
            let e1 : find test (gathered f n) ≡ None = subst (λ x. find test (gathered f x) ≡ None) q e in
            let g1 : find test (f n) ≡ Some s = subst (λ x. find test (f x) ≡ Some s) q g in
            rw (e1, g1) refl
      ]

  -- where nothing is found in all, nothing is in each
  pub none-each : (f : ℕ → List A) (i n : ℕ) → i < n → find test (gathered f n) ≡ None → find test (f i) ≡ None
  none-each f i zero lt e = absurd (omega (arith, lt))
  none-each f i (suc n) lt e =
      let s = none-both (find test (gathered f n)) (find test (f n)) (sym (find-more f n) ∙ e) in
      elim (below-suc i n lt) [ inl l ↦ none-each f i n l s.0 | inr q ↦ ap (λ x. find test (f x)) q ∙ s.1 ]

  -- what is found in all is found in one of them
  pub found-in : (f : ℕ → List A) (n : ℕ) (s : A) → find test (gathered f n) ≡ Some s
      → (k : ℕ) × (k < n) × (find test (f k) ≡ Some s)
  found-in f zero s e = absurd (none-some s (sym (try-start f) ∙ e))
  found-in f (suc n) s e = by (find test (gathered f n)) refl (sym (find-more f n) ∙ e) (found-in f n s)
    where
      by : (o : Option A) → find test (gathered f n) ≡ o → option_or o (find test (f n)) ≡ Some s
          → (find test (gathered f n) ≡ Some s → (k : ℕ) × (k < n) × (find test (f k) ≡ Some s))
          → (k : ℕ) × (k < suc n) × (find test (f k) ≡ Some s)
      by None none here before = (n, omega arith, here)
      by (Some x) some here before = let r = before (some ∙ here) in (r.0, omega (arith, r.1), r.2)

-- what a loop over the numbers keeps, which tries the list of each, and what it answers where it finds nothing
pub ruleset tries = (try-start, try-more, try-none)
