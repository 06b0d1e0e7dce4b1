-- Lists that are related element by element stay so where both are put in order.
use Rattle.std.proofs.Common.{rules}
use Rattle.keymap_lint.proofs.Common.{◌≡◌, ℕ, ◌+◌, ◌<◌, ◌≤◌, Bool, true, false, ◌&&◌, not, cond, List, [], ◌∷◌}
use Rattle.keymap_lint.proofs.Common.{length, get_or}
use Rattle.keymap_lint.proofs.Common.{refl, sym, ◌∙◌, subst, arith, Option, Some, None, true≢false, Diagnostic}
use Prim.Native.Nat.{suc}
use Rattle.std.proofs.Common.{◌⊎◌, inl, inr, All, ◌==◌, nat_lt}
use Rattle.std.specs.List.{filter}
use Rattle.std.specs.List.Sorted.{IsNonDecreasingBy}
use Rattle.std.specs.Option.{option_cmp, option_to_list}
use Rattle.std.specs.Ordering.{is_lt, nat_cmp}
use Rattle.std.proofs.lemmas.Bool.{cases_lt, eqb-true, lt-ltb}
use Rattle.std.proofs.lemmas.Bool.Decides.{nat_tests}
use Rattle.std.proofs.lemmas.List.Elements.{All-head, All-tail}
use Rattle.std.proofs.lemmas.List.Sorted.{All-permutation, IsNonDecreasingBy-from_sort}
use Rattle.keymap_lint.specs.Lists.{AreOrdered}
use Rattle.keymap_lint.specs.Same.{IsSame, Pairwise, no_pair, one_pair}
use Rattle.keymap_lint.proofs.Pairs.{pairs_filter, pairs_heads, pairs_left, pairs_length, pairs_right}

-- ---- tests of numbers

equal : (a b : ℕ) → a ≡ b → (a == b) ≡ true
equal a b e = grind (arith, nat_tests, e)

-- numbers are equal exactly if others are
equal_alike : (a b c d : ℕ) → (a ≡ b → c ≡ d) → (c ≡ d → a ≡ b) → (a == b) ≡ (c == d)
equal_alike a b c d f g = search (rules, equal, eqb-true)

-- neither is less
tie_nat : (a b : ℕ) → (not (nat_lt a b) && not (nat_lt b a)) ≡ (a == b)
tie_nat a b = search (rules, nat_tests)

-- ---- lists in order

-- what some elements are equal to isn't less than all are at least
lowest : {X : Type 0} (f : X → ℕ) (r low : ℕ) (zs : List X) → All (λ z. low ≤ f z) zs
    → 0 < length (filter (λ z. r == f z) zs) → low ≤ r
lowest f r low [] all some = absurd (omega (arith, some))
lowest {X} f r low (z ∷ zs) all some =
    go (r == f z) refl some (lowest f r low zs (All-tail (λ z. low ≤ f z) z zs all))
  where
    go : (b : Bool) → (r == f z) ≡ b
        → 0 < length (cond b (z ∷ filter (λ z. r == f z) zs) (filter (λ z. r == f z) zs))
        → (0 < length (filter (λ z. r == f z) zs) → low ≤ r) → low ≤ r
    go true e some later = omega (arith, eqb-true r (f z) e, All-head (λ z. low ≤ f z) z zs all)
    go false e some later = later some

-- the first element is among those that are equal to it
first_among : {X : Type 0} (f : X → ℕ) (x : X) (xs : List X) → 0 < length (filter (λ z. f x == f z) (x ∷ xs))
first_among f x xs = search (rules, equal)

module _ {A B : Type 0} (R : A → B → Type 0) (m : A → ℕ) (n : B → ℕ)
    (rises : (x u : A) (y v : B) → R x y → R u v → (m x < m u → n y < n v) × (n y < n v → m x < m u)) where
  same_after : (x u : A) (y v : B) → R x y → R u v → m x ≡ m u → n y ≡ n v
  same_after x u y v r s e = elim (cases_lt (n y) (n v)) [
    | inl l ↦ absurd (omega (arith, e, (rises x u y v r s).1 l))
    | inr k ↦ elim (cases_lt (n v) (n y)) [
      | inl l ↦ absurd (omega (arith, e, (rises u x v y s r).1 l))
      | inr j ↦ omega (arith, j, k)
    ]
  ]

  same_before : (x u : A) (y v : B) → R x y → R u v → n y ≡ n v → m x ≡ m u
  same_before x u y v r s e = elim (cases_lt (m x) (m u)) [
    | inl l ↦ absurd (omega (arith, e, (rises x u y v r s).0 l))
    | inr k ↦ elim (cases_lt (m u) (m x)) [
      | inl l ↦ absurd (omega (arith, e, (rises u x v y s r).0 l))
      | inr j ↦ omega (arith, j, k)
    ]
  ]

  pub tests_alike : (x u : A) (y v : B) → R x y → R u v → (m x == m u) ≡ (n y == n v)
  tests_alike x u y v r s =
      equal_alike (m x) (m u) (n y) (n v) (same_after x u y v r s) (same_before x u y v r s)

  -- Two lists in order are related, if those of each place are.
  pub merged : (ls : List A) (ks : List B) → IsNonDecreasingBy m ls → IsNonDecreasingBy n ks
      → All (λ x. (y : B) × R x y) ls → All (λ y. (x : A) × R x y) ks
      → ((x : A) (y : B) → R x y → Pairwise R (filter (λ u. m x == m u) ls) (filter (λ v. n y == n v) ks))
      → Pairwise R ls ks
  merged [] [] up rise left right h = no_pair
  merged (x ∷ ls) [] up rise left right h =
      let p = All-head (λ x. (y : B) × R x y) x ls left in
      absurd (omega (arith, first_among m x ls, pairs_length R (h x p.0 p.1)))
  merged [] (y ∷ ks) up rise left right h =
      let q = All-head (λ y. (x : A) × R x y) y ks right in
      absurd (omega (arith, first_among n y ks, pairs_length R (h q.0 y q.1)))
  merged (x ∷ ls) (y ∷ ks) up rise left right h =
      one_pair first
      (merged ls ks (λ i j d before l. up (suc i) (suc j) d (omega (arith, before)) (omega (arith, l)))
      (λ i j d before l. rise (suc i) (suc j) d (omega (arith, before)) (omega (arith, l)))
      (All-tail (λ x. (y : B) × R x y) x ls left) (All-tail (λ y. (x : A) × R x y) y ks right)
      (λ u v r. rest (m u == m x) (n v == n y) (tests_alike u x v y r first) (h u v r)))
    where
      p : (y : B) × R x y
      p = All-head (λ x. (y : B) × R x y) x ls left

      q : (x : A) × R x y
      q = All-head (λ y. (x : A) × R x y) y ks right

      low : n y ≤ n p.0
      low =
          lowest n (n p.0) (n y) (y ∷ ks) (λ k d l. rise 0 k d (omega arith) l)
          (omega (arith, first_among m x ls, pairs_length R (h x p.0 p.1)))

      few : m x ≤ m q.0
      few =
          lowest m (m q.0) (m x) (x ∷ ls) (λ k d l. up 0 k d (omega arith) l)
          (omega (arith, first_among n y ks, pairs_length R (h q.0 y q.1)))

      same : n p.0 ≡ n y
      same = elim (cases_lt (n y) (n p.0)) [
        | inl l ↦ absurd (omega (arith, few, (rises q.0 x y p.0 q.1 p.1).1 l))
        | inr k ↦ omega (arith, k, low)
      ]

      front : (a b : Bool) → a ≡ true → b ≡ true → (us : List A) (vs : List B)
          → Pairwise R (cond a (x ∷ us) us) (cond b (y ∷ vs) vs) → R x y
      front true true e f us vs k = (pairs_heads R k).0
      front true false e f us vs k = absurd (true≢false (sym f))
      front false b e f us vs k = absurd (true≢false (sym e))

      first : R x y
      first =
          front (m x == m x) (n p.0 == n y) (equal (m x) (m x) refl) (equal (n p.0) (n y) same)
          (filter (λ u. m x == m u) ls) (filter (λ v. n p.0 == n v) ks) (h x p.0 p.1)

      rest : (a b : Bool) → a ≡ b → {us : List A} {vs : List B}
          → Pairwise R (cond a (x ∷ us) us) (cond b (y ∷ vs) vs) → Pairwise R us vs
      rest true true e k = (pairs_heads R k).1
      rest false false e k = k
      rest true false e k = absurd (true≢false e)
      rest false true e k = absurd (true≢false (sym e))

-- ---- diagnostics in order

-- a number for a place; none comes first
abbrev pub rank : Option ℕ → ℕ
rank None = 0
rank (Some p) = suc p

abbrev pub rank_of : Diagnostic → ℕ
rank_of d = rank d.place

below_is : (a b : ℕ) → nat_lt a b ≡ nat_lt (suc a) (suc b)
below_is a b = search (rules, nat_tests)

lt_nat : (a b : ℕ) → is_lt (nat_cmp a b) ≡ nat_lt a b
lt_nat a b = search rules

lt_is : (o p : Option ℕ) → is_lt (option_cmp nat_cmp o p) ≡ nat_lt (rank o) (rank p)
lt_is None None = refl
lt_is None (Some q) = sym (lt-ltb 0 (suc q) (omega arith))
lt_is (Some p) None = grind (arith, nat_tests)
lt_is (Some p) (Some q) = lt_nat p q ∙ below_is p q

tie_is : (o p : Option ℕ) → (not (is_lt (option_cmp nat_cmp o p)) && not (is_lt (option_cmp nat_cmp p o)))
    ≡ (rank o == rank p)
tie_is o p = (λ i. not (lt_is o p i) && not (lt_is p o i)) ∙ tie_nat (rank o) (rank p)

in_order : (found ordered : List Diagnostic) → AreOrdered found ordered → IsNonDecreasingBy rank_of ordered
in_order found ordered is =
    IsNonDecreasingBy-from_sort rank_of ordered (λ k d least few.
    lt_nat (rank (get_or ordered (k + 1) d).place) (rank (get_or ordered k d).place)
    ∙ sym (lt_is (get_or ordered (k + 1) d).place (get_or ordered k d).place) ∙ is.in_order k d least few)

of_place : (found ordered : List Diagnostic) → AreOrdered found ordered → (d : Diagnostic)
    → filter (λ (e : Diagnostic). rank_of d == rank_of e) ordered
    ≡ filter (λ (e : Diagnostic). rank_of d == rank_of e) found
of_place found ordered is d =
    subst (λ (test : Diagnostic → Bool). filter test ordered ≡ filter test found)
    (λ i e. tie_is d.place e.place i) (is.stable d)

-- places are related exactly if both are there
place_pair : (P : ℕ → ℕ → Type 0) (o s : Option ℕ) → Pairwise P (option_to_list o) (option_to_list s)
    → ((rank o ≡ 0) × (rank s ≡ 0)) ⊎ ((p : ℕ) × (q : ℕ) × (rank o ≡ suc p) × (rank s ≡ suc q) × P p q)
place_pair P None None k = inl (refl, refl)
place_pair P (Some p) (Some q) k = inr (p, q, refl, refl, (pairs_heads P k).0)
place_pair P None (Some q) k = absurd (omega (arith, pairs_length P k))
place_pair P (Some p) None k = absurd (omega (arith, pairs_length P k))

-- Two lists that are the same but for places stay so when both are put in order, where places are related in order.
pub ordered_same : (P : ℕ → ℕ → Type 0)
    → ((p k q l : ℕ) → P p q → P k l → (p < k → q < l) × (q < l → p < k))
    → (found others ordered theirs : List Diagnostic) → Pairwise (IsSame P) found others → AreOrdered found ordered
    → AreOrdered others theirs → Pairwise (IsSame P) ordered theirs
ordered_same P along found others ordered theirs same is are =
    merged (IsSame P) rank_of rank_of rises ordered theirs (in_order found ordered is) (in_order others theirs are)
    (All-permutation (λ d. (e : Diagnostic) × IsSame P d e) found ordered is.same (pairs_left (IsSame P) same))
    (All-permutation (λ e. (d : Diagnostic) × IsSame P d e) others theirs are.same (pairs_right (IsSame P) same))
    (λ d e r. subst (λ (sides : List Diagnostic × List Diagnostic). Pairwise (IsSame P) sides.0 sides.1)
    (λ i. (sym (of_place found ordered is d) i, sym (of_place others theirs are e) i))
    (pairs_filter (IsSame P) (λ (x : Diagnostic). rank_of d == rank_of x) (λ (x : Diagnostic). rank_of e == rank_of x)
    (λ x y s. tests_alike (IsSame P) rank_of rank_of rises d x e y r s) same))
  where
    rises : (x u y v : Diagnostic) → IsSame P x y → IsSame P u v
        → (rank_of x < rank_of u → rank_of y < rank_of v) × (rank_of y < rank_of v → rank_of x < rank_of u)
    rises x u y v r s = search (rules, place_pair)
