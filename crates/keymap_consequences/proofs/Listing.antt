-- Lists to which one is added number by number, and lists of which some stay.
use Rattle.keymap_consequences.proofs.Common.{◌≡◌, ◌<◌, ◌+◌, ◌++◌, ◌∷◌, [], ◌⊎◌, ℕ, List, inl, inr}
use Rattle.keymap_consequences.proofs.Common.{All, Any, AllPairs, Contains, arith, subst, sym, ◌∙◌}
use Rattle.keymap_consequences.proofs.Common.{All-nil, All-push, Any-push, all_pairs_push, place_last}
use Rattle.keymap_consequences.specs.Lists.{ListsInOrder, StandForEach}
use Rattle.std.proofs.Common.{length-append}
use Rattle.std.proofs.lemmas.List.{get_or_append_left}

-- so far as the numbers below this one go
pub record StandBelow {X : Type 0} (number : X → ℕ) (P : X → Type 0) (IsWanted : ℕ → Type 0) (n : ℕ) (xs : List X)
    : Type 0 where
  pub each : All P xs
  pub below : All (λ x. number x < n) xs
  pub complete : (i : ℕ) → i < n → IsWanted i → Any (λ x. number x ≡ i) xs
  pub in_order : AllPairs (λ x y. number x < number y) xs

pub stand-none : {X : Type 0} (number : X → ℕ) (P : X → Type 0) (W : ℕ → Type 0) → StandBelow number P W 0 []
stand-none number P W = record {
  each = All-nil P;
  below = All-nil (λ x. number x < 0);
  complete = λ i lt. absurd (omega (arith, lt));
  in_order = λ i j d before lt. absurd (omega (arith, lt));
}

pub stand-skip : {X : Type 0} (number : X → ℕ) (P : X → Type 0) (W : ℕ → Type 0) (n : ℕ) (xs : List X)
    → StandBelow number P W n xs → (W n → ⊥)
    → StandBelow number P W (n + 1) xs
stand-skip number P W n xs x none = record {
  each = x.each;
  below = λ k d lt. let b = x.below k d lt in omega (arith, b);
  complete = λ i lt wanted. elim (place_last i n lt) [
    | inl before ↦ x.complete i before wanted
    | inr f ↦ absurd (none (subst W f wanted))
  ];
  in_order = x.in_order;
}

any-more : {X : Type 0} (Q : X → Type 0) (xs : List X) (y : X) → Any Q xs → Any Q (xs ++ y ∷ [])
any-more Q xs y (k, x, lt, at, is) =
    (k, x, (let e = length-append xs (y ∷ []) in omega (arith, lt, e)), get_or_append_left xs (y ∷ []) x k lt ∙ at, is)

pub stand-push : {X : Type 0} (number : X → ℕ) (P : X → Type 0) (W : ℕ → Type 0) (n : ℕ) (xs : List X) (y : X)
    → StandBelow number P W n xs → number y ≡ n → P y
    → StandBelow number P W (n + 1) (xs ++ y ∷ [])
stand-push number P W n xs y x is so = record {
  each = All-push P xs y x.each so;
  below =
      All-push (λ z. number z < n + 1) xs y (λ k d lt. let b = x.below k d lt in omega (arith, b))
      (omega (arith, is));
  complete = λ i lt wanted. elim (place_last i n lt) [
    | inl before ↦ any-more (λ z. number z ≡ i) xs y (x.complete i before wanted)
    | inr f ↦ Any-push (λ z. number z ≡ i) xs y (is ∙ sym f)
  ];
  in_order =
      all_pairs_push (λ z w. number z < number w) xs y x.in_order
      (λ k d lt. let b = x.below k d lt in omega (arith, b, is));
}

pub stand-all : {X : Type 0} (number : X → ℕ) (P : X → Type 0) (W : ℕ → Type 0) (n : ℕ) (xs : List X)
    → StandBelow number P W n xs → ((i : ℕ) → W i → i < n)
    → StandForEach number P W xs
stand-all number P W n xs x few = record {
  each = x.each;
  complete = λ i wanted. x.complete i (few i wanted) wanted;
  in_order = x.in_order;
}

-- where one stands for each number, and a number is of one alone, all are listed
pub stand-lists : {X : Type 0} (number : X → ℕ) (P : X → Type 0) (W : ℕ → Type 0) (xs : List X)
    → StandForEach number P W xs → ((x : X) → P x → W (number x))
    → ((x y : X) → P x → P y → number x ≡ number y → x ≡ y)
    → ListsInOrder number P xs
stand-lists number P W xs s wants same = record {
  all = λ x is.
      let (k, y, lt, at, equal) = s.complete (number x) (wants x is) in
      let there : P y = subst P at (s.each k y lt) in
      subst (λ z. Contains xs z) (same y x there is equal) (k, lt, at);
  only = λ x has. let (k, lt, at) = has in subst P at (s.each k x lt);
  in_order = s.in_order;
}
