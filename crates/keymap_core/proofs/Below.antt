-- What stands below a bound, where the bound goes up by one.
use Rattle.keymap_core.proofs.Common.{zero, suc, ◌≡◌, ℕ, ◌<◌, ◌≤◌, length, length-append, ◌+◌, ◌-◌, Bool, true, false}
use Rattle.keymap_core.proofs.Common.{List, [], ◌++◌, Option, Some, None, refl, ap, subst, sym, ◌∙◌, inl, inr, arith}
use Rattle.keymap_core.proofs.Common.{none-some, same_Some, option_or, first_below, rules}
use Rattle.std.proofs.Common.{◌⊎◌, if◌then◌else◌, add-one}
use Rattle.std.proofs.lemmas.Bool.{cases_eq}
use Rattle.std.specs.Option.{MatchOption}
use Rattle.keymap_core.specs.Below.{gathered}

-- a number below n + 1 is below n, or n
pub below-suc : (i n : ℕ) → i < suc n → (i < n) ⊎ (i ≡ n)
below-suc i n lt = elim (cases_eq i n) [ inl e ↦ inr e | inr ne ↦ inl (omega (arith, lt, ne)) ]

-- no number is below 0
pub first_below-none : (test : ℕ → Bool) → first_below test 0 ≡ None
unfolding first_below
first_below-none test = refl

-- where none below n passes, and n doesn't, none below n + 1 does
pub first_below-more : (test : ℕ → Bool) (n : ℕ) → first_below test n ≡ None → test n ≡ false
    → first_below test (n + 1) ≡ None
unfolding first_below
first_below-more test n e f = rw (add-one, e, f) refl

-- the first number that passes is the same below each larger bound
pub first_below-kept : (test : ℕ → Bool) (n i d : ℕ) → first_below test n ≡ Some i → first_below test (d + n) ≡ Some i
unfolding first_below
first_below-kept test n i zero e = let z : n ≡ 0 + n = omega arith in subst (λ x. first_below test x ≡ Some i) z e
first_below-kept test n i (suc d) e =
    let s : suc d + n ≡ suc (d + n) = omega arith in
    rw (s, first_below-kept test n i d e) refl

-- where none below i passes, and i does, i is the first
first_below-here : (test : ℕ → Bool) (i : ℕ) → first_below test i ≡ None → test i ≡ true
    → first_below test (suc i) ≡ Some i
unfolding first_below
first_below-here test i e f = rw (e, f) refl

-- the first number that passes is found below each larger number
pub first_below-found : (test : ℕ → Bool) (i n : ℕ) → i < n → first_below test i ≡ None → test i ≡ true
    → first_below test n ≡ Some i
first_below-found test i n lt e f =
    let z : (n - suc i) + suc i ≡ n = omega (arith, lt) in
    subst (λ x. first_below test x ≡ Some i) z
    (first_below-kept test (suc i) i (n - suc i) (first_below-here test i e f))

-- a first that passes, and none before it
abbrev pub IsFirstBelow : (ℕ → Bool) → ℕ → ℕ → Type 0
IsFirstBelow test n i = (i < n) × (test i ≡ true) × ((j : ℕ) → j < i → test j ≡ false)

-- no number below the bound passes the test
abbrev pub NoneBelow : (ℕ → Bool) → ℕ → Type 0
NoneBelow test n = (j : ℕ) → j < n → test j ≡ false

-- where none below n passes, and n doesn't, none below n + 1 does
one-more : (test : ℕ → Bool) (n : ℕ) → NoneBelow test n → test n ≡ false → NoneBelow test (suc n)
one-more test n f e j lt = elim (below-suc j n lt) [ inl s ↦ f j s | inr s ↦ ap test s ∙ e ]

-- the step of the next lemma, by the first below n and the test of n
no-by : (test : ℕ → Bool) (n : ℕ) (o : Option ℕ) (t : Bool) → test n ≡ t → (o ≡ None → NoneBelow test n)
    → option_or o (if t then Some n else None) ≡ None → NoneBelow test (suc n)
no-by test n None true e g h = absurd (none-some n (sym h))
no-by test n None false e g h = one-more test n (g refl) e
no-by test n (Some i) t e g h = absurd (none-some i (sym h))

-- where no first number is found, none passes
pub first_below-no : (test : ℕ → Bool) (n : ℕ) → first_below test n ≡ None → NoneBelow test n
unfolding first_below
first_below-no test zero e = λ j lt. absurd (omega (arith, lt))
first_below-no test (suc n) e = no-by test n (first_below test n) (test n) refl (first_below-no test n) e

-- the step of the next lemma, by the first below n and the test of n
some-by : (test : ℕ → Bool) (n i : ℕ) (o : Option ℕ) (t : Bool) → test n ≡ t → (o ≡ None → NoneBelow test n)
    → (o ≡ Some i → IsFirstBelow test n i) → option_or o (if t then Some n else None) ≡ Some i
    → IsFirstBelow test (suc n) i
some-by test n i None true e g f h = search (rules, same_Some)
some-by test n i None false e g f h = absurd (none-some i h)
some-by test n i (Some j) t e g f h = let r : IsFirstBelow test n i = f h in (omega (arith, r.0), r.1, r.2)

-- the number that is found is the first that passes
pub first_below-some : (test : ℕ → Bool) (n i : ℕ) → first_below test n ≡ Some i → IsFirstBelow test n i
unfolding first_below
first_below-some test zero i e = absurd (none-some i e)
first_below-some test (suc n) i e =
    some-by test n i (first_below test n) (test n) refl (first_below-no test n) (first_below-some test n i) e

-- where none below n passes, no first number is found
first_below-nowhere : (test : ℕ → Bool) (n : ℕ) → NoneBelow test n → first_below test n ≡ None
unfolding first_below
first_below-nowhere test zero h = refl
first_below-nowhere test (suc n) h =
    let before : NoneBelow test n = λ j lt. h j (omega arith) in
    let here : test n ≡ false = h n (omega arith) in
    rw (first_below-nowhere test n before, here) refl

-- what is found over the numbers below n, from 0 on, is the first
pub first_below-is : (test : ℕ → Bool) (n : ℕ) (r : Option ℕ)
    → MatchOption r ((k : ℕ) → 0 ≤ k → k < n → test k ≡ false)
    (λ i. (0 ≤ i) × (i < n) × (test i ≡ true) × ((k : ℕ) → 0 ≤ k → k < i → test k ≡ false))
    → r ≡ first_below test n
first_below-is test n None h = sym (first_below-nowhere test n (λ k lt. h k (omega arith) lt))
first_below-is test n (Some i) h =
    sym (first_below-found test i n h.1 (first_below-nowhere test i (λ k lt. h.3 k (omega arith) lt)) h.2)

-- nothing is gathered below 0
pub gathered-none : {A : Type 0} (f : ℕ → List A) → gathered f 0 ≡ []
unfolding gathered
gathered-none f = refl

-- what is gathered below n + 1 is that below n, and what n has
pub gathered-more : {A : Type 0} (f : ℕ → List A) (n : ℕ) → gathered f (n + 1) ≡ gathered f n ++ f n
unfolding gathered
gathered-more f n = rw add-one refl

-- more is gathered below a larger bound
pub gathered-le : {A : Type 0} (f : ℕ → List A) (i n : ℕ) → i ≤ n → length (gathered f i) ≤ length (gathered f n)
unfolding gathered
gathered-le f i zero le =
    let e : i ≡ 0 = omega (arith, le) in subst (λ x. length (gathered f i) ≤ length (gathered f x)) e (omega arith)
gathered-le f i (suc n) le =
    elim (below-suc i (suc n) (omega (arith, le))) [
      | inl lt ↦
          let h : length (gathered f i) ≤ length (gathered f n) = gathered-le f i n (omega (arith, lt)) in
          omega (arith, h, length-append (gathered f n) (f n))
      | inr e ↦ subst (λ x. length (gathered f i) ≤ length (gathered f x)) e (omega arith)
    ]
