-- Lists that are related element by element.
use Rattle.std.proofs.Common.{rules}
use Rattle.keymap_lint.proofs.Common.{◌≡◌, ◌+◌, ◌<◌, ℕ, Bool, true, false, List, [], ◌∷◌, ◌++◌, refl, sym, length}
use Rattle.keymap_lint.proofs.Common.{arith, cond, get_or, map, not, Option, Some, None, find, flat_map, gathered}
use Rattle.keymap_lint.proofs.Common.{true≢false}
use Prim.Native.Nat.{zero, suc}
use Rattle.std.specs.Option.{option_to_list}
use Rattle.std.proofs.Common.{All, nat_lt}
use Rattle.std.specs.List.{filter, list_any, position, prefix_len}
use Rattle.std.proofs.lemmas.List.Elements.{All-cons, All-head, All-nil, All-tail}
use Rattle.keymap_lint.specs.Same.{Pairwise, no_pair, one_pair}

module _ {A B : Type 0} (R : A → B → Type 0) where
  pub pairs_append : {xs us : List A} {ys vs : List B} → Pairwise R xs ys → Pairwise R us vs
      → Pairwise R (xs ++ us) (ys ++ vs)
  pairs_append no_pair k = k
  pairs_append (one_pair r h) k = one_pair r (pairs_append h k)

  -- what each element of a list gives
  pub pairs_flat : {X : Type 0} (Q : X → Type 0) (f : X → List A) (g : X → List B)
      → ((x : X) → Q x → Pairwise R (f x) (g x)) → (xs : List X) → All Q xs
      → Pairwise R (flat_map f xs) (flat_map g xs)
  pairs_flat Q f g h [] all = no_pair
  pairs_flat Q f g h (x ∷ xs) all =
      pairs_append (h x (All-head Q x xs all)) (pairs_flat Q f g h xs (All-tail Q x xs all))

  -- what each of two related elements gives
  pub pairs_flat_related : {X Y : Type 0} (S : X → Y → Type 0) (f : X → List A) (g : Y → List B)
      → ((x : X) (y : Y) → S x y → Pairwise R (f x) (g y)) → {xs : List X} {ys : List Y} → Pairwise S xs ys
      → Pairwise R (flat_map f xs) (flat_map g ys)
  pairs_flat_related S f g h no_pair = no_pair
  pairs_flat_related S f g h (one_pair {x = x} {y = y} s rest) =
      pairs_append (h x y s) (pairs_flat_related S f g h rest)

  -- what each number gives
  pub pairs_gathered : (f : ℕ → List A) (g : ℕ → List B) (n : ℕ)
      → ((k : ℕ) → k < n → Pairwise R (f k) (g k)) → Pairwise R (gathered f n) (gathered g n)
  unfolding gathered
  pairs_gathered f g zero h = no_pair
  pairs_gathered f g (suc n) h =
      pairs_append (pairs_gathered f g n (λ k low. h k (omega (arith, low)))) (h n (omega arith))

  pub pairs_one : (x : A) (y : B) → R x y → Pairwise R (x ∷ []) (y ∷ [])
  pairs_one x y r = one_pair r no_pair

  pub pairs_map : {X : Type 0} (Q : X → Type 0) (f : X → A) (g : X → B) → ((x : X) → Q x → R (f x) (g x))
      → (xs : List X) → All Q xs → Pairwise R (map f xs) (map g xs)
  pairs_map Q f g h [] all = no_pair
  pairs_map Q f g h (x ∷ xs) all =
      one_pair (h x (All-head Q x xs all)) (pairs_map Q f g h xs (All-tail Q x xs all))

  -- what both are only if a test says so, and unless it does
  pub pairs_if : (a b : Bool) → a ≡ b → (x : A) (y : B) → (a ≡ true → R x y)
      → Pairwise R (option_to_list (cond a (Some x) None)) (option_to_list (cond b (Some y) None))
  pairs_if true true e x y h = one_pair (h refl) no_pair
  pairs_if false false e x y h = no_pair
  pairs_if true false e x y h = absurd (true≢false e)
  pairs_if false true e x y h = absurd (true≢false (sym e))

  pub pairs_if_some : (b : Bool) (o : Option A) (p : Option B) → Pairwise R (option_to_list o) (option_to_list p)
      → Pairwise R (option_to_list (cond b o None)) (option_to_list (cond b p None))
  pairs_if_some true o p h = h
  pairs_if_some false o p h = no_pair

  pub pairs_unless : (b : Bool) (x : A) (y : B) → R x y
      → Pairwise R (option_to_list (cond b None (Some x))) (option_to_list (cond b None (Some y)))
  pairs_unless true x y h = no_pair
  pairs_unless false x y h = one_pair h no_pair

  pub pairs_either : (b : Bool) (xs us : List A) (ys vs : List B) → Pairwise R xs ys → Pairwise R us vs
      → Pairwise R (cond b xs us) (cond b ys vs)
  pairs_either true xs us ys vs h k = h
  pairs_either false xs us ys vs h k = k

  -- by whether there is one
  pub pairs_some : {X : Type 0} (f : Option X → List A) (g : Option X → List B) (o : Option X)
      → Pairwise R (f None) (g None) → ((x : X) → o ≡ Some x → Pairwise R (f (Some x)) (g (Some x)))
      → Pairwise R (f o) (g o)
  pairs_some f g None h k = h
  pairs_some f g (Some x) h k = k x refl

  -- by the first ones that pass a test, which are related
  pub pairs_find : {X Y : Type 0} (S : X → Y → Type 0) (p : X → Bool) (q : Y → Bool)
      → ((x : X) (y : Y) → S x y → p x ≡ q y) → (f : Option X → List A) (g : Option Y → List B)
      → Pairwise R (f None) (g None) → ((x : X) (y : Y) → S x y → Pairwise R (f (Some x)) (g (Some y)))
      → {xs : List X} {ys : List Y} → Pairwise S xs ys → Pairwise R (f (find p xs)) (g (find q ys))
  pairs_find S p q same f g h k no_pair = h
  pairs_find S p q same f g h k (one_pair {x = x} {y = y} {xs = xs} {ys = ys} s rest) =
      go (p x) (q y) (same x y s) (pairs_find S p q same f g h k rest)
    where
      go : (a b : Bool) → a ≡ b → Pairwise R (f (find p xs)) (g (find q ys))
          → Pairwise R (f (cond a (Some x) (find p xs))) (g (cond b (Some y) (find q ys)))
      go true true e rest = k x y s
      go false false e rest = rest
      go true false e rest = absurd (true≢false e)
      go false true e rest = absurd (true≢false (sym e))

  pub pairs_length : {xs : List A} {ys : List B} → Pairwise R xs ys → length xs ≡ length ys
  pairs_length no_pair = refl
  pairs_length (one_pair {xs = xs} {ys = ys} r rest) =
      let e : length xs ≡ length ys = pairs_length rest in omega (arith, e)

  pub pairs_heads : {x : A} {y : B} {xs : List A} {ys : List B} → Pairwise R (x ∷ xs) (y ∷ ys)
      → R x y × Pairwise R xs ys
  pairs_heads (one_pair r rest) = (r, rest)

  -- the elements of one place
  pub pairs_at : {xs : List A} {ys : List B} → Pairwise R xs ys → (n : ℕ) (d : A) (e : B) → n < length xs
      → R (get_or xs n d) (get_or ys n e)
  pairs_at no_pair n d e low = absurd (omega (arith, low))
  pairs_at (one_pair r rest) zero d e low = r
  pairs_at (one_pair r rest) (suc n) d e low = pairs_at rest n d e (omega (arith, low))

  pub pairs_from : (d : A) (e : B) (xs : List A) (ys : List B) → length xs ≡ length ys
      → ((n : ℕ) → n < length xs → R (get_or xs n d) (get_or ys n e)) → Pairwise R xs ys
  pairs_from d e [] [] same h = no_pair
  pairs_from d e (x ∷ xs) [] same h = absurd (omega (arith, same))
  pairs_from d e [] (y ∷ ys) same h = absurd (omega (arith, same))
  pairs_from d e (x ∷ xs) (y ∷ ys) same h =
      one_pair (h 0 (omega arith))
      (pairs_from d e xs ys (omega (arith, same)) (λ n low. h (suc n) (omega (arith, low))))

  -- what is equal of related elements
  pub pairs_equal : {X : Type 0} (f : A → X) (g : B → X) → ((x : A) (y : B) → R x y → f x ≡ g y)
      → {xs : List A} {ys : List B} → Pairwise R xs ys → map f xs ≡ map g ys
  pairs_equal f g same no_pair = refl
  pairs_equal f g same (one_pair {x = x} {y = y} r rest) = λ i. same x y r i ∷ pairs_equal f g same rest i

  -- those that pass a test, which related elements pass alike
  pub pairs_filter : (p : A → Bool) (q : B → Bool) → ((x : A) (y : B) → R x y → p x ≡ q y) → {xs : List A} {ys : List B}
      → Pairwise R xs ys → Pairwise R (filter p xs) (filter q ys)
  pairs_filter p q same no_pair = no_pair
  pairs_filter p q same (one_pair {x = x} {y = y} {xs = xs} {ys = ys} r rest) =
      go (p x) (q y) (same x y r) (pairs_filter p q same rest)
    where
      go : (a b : Bool) → a ≡ b → Pairwise R (filter p xs) (filter q ys)
          → Pairwise R (cond a (x ∷ filter p xs) (filter p xs)) (cond b (y ∷ filter q ys) (filter q ys))
      go true true e rest = one_pair r rest
      go false false e rest = rest
      go true false e rest = absurd (true≢false e)
      go false true e rest = absurd (true≢false (sym e))

  -- each element of either list is related to one
  pub pairs_left : {xs : List A} {ys : List B} → Pairwise R xs ys → All (λ x. (y : B) × R x y) xs
  pairs_left no_pair = All-nil (λ x. (y : B) × R x y)
  pairs_left (one_pair {x = x} {y = y} {xs = xs} r rest) =
      All-cons (λ x. (y : B) × R x y) x xs (y, r) (pairs_left rest)

  pub pairs_right : {xs : List A} {ys : List B} → Pairwise R xs ys → All (λ y. (x : A) × R x y) ys
  pairs_right no_pair = All-nil (λ y. (x : A) × R x y)
  pairs_right (one_pair {x = x} {y = y} {ys = ys} r rest) =
      All-cons (λ y. (x : A) × R x y) y ys (x, r) (pairs_right rest)

  -- the first that passes a test has the same number
  pairs_prefix : (p : A → Bool) (q : B → Bool) → ((x : A) (y : B) → R x y → p x ≡ q y) → {xs : List A} {ys : List B}
      → Pairwise R xs ys → prefix_len (λ x. not (p x)) xs ≡ prefix_len (λ y. not (q y)) ys
  pairs_prefix p q same no_pair = refl
  pairs_prefix p q same (one_pair {x = x} {y = y} r rest) =
      λ i. cond (not (same x y r i)) (1 + pairs_prefix p q same rest i) 0

  pub pairs_position : (p : A → Bool) (q : B → Bool) → ((x : A) (y : B) → R x y → p x ≡ q y)
      → {xs : List A} {ys : List B} → Pairwise R xs ys → position p xs ≡ position q ys
  pairs_position p q same related =
      let n = pairs_prefix p q same related in
      let long = pairs_length related in
      λ i. cond (nat_lt (n i) (long i)) (Some (n i)) None

-- a test that related elements pass alike, some of them passes
pub pairs_any : {A B : Type 0} (R : A → B → Type 0) (p : A → Bool) (q : B → Bool)
    → ((x : A) (y : B) → R x y → p x ≡ q y) → {xs : List A} {ys : List B} → Pairwise R xs ys
    → list_any p xs ≡ list_any q ys
pairs_any R p q same no_pair = refl
pairs_any R p q same (one_pair {x = x} {y = y} r rest) = search (rules, pairs_any R p q same rest)
