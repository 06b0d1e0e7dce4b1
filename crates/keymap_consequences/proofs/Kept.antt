-- The characters of a sorted list that stay, one after another.
use Rattle.keymap_consequences.proofs.Common.{◌≡◌, ◌<◌, ◌≤◌, ◌+◌, ◌++◌, ◌∷◌, ◌∙◌, [], ◌⊎◌, ℕ, List, length, inl, inr, sym}
use Rattle.keymap_consequences.proofs.Common.{AllPairs, Contains, Contains-push, Contains-push_cases, all_pairs_push}
use Rattle.keymap_consequences.proofs.Common.{arith, place_last, subst, ap}
use Rattle.std.specs.Prelude.{◌↔◌}
use Rattle.std.proofs.Common.{get_or}
use Rattle.std.proofs.lemmas.List.{get_or_default}
use Rattle.std.proofs.lemmas.List.Elements.{Contains-append_left}
use Rattle.std.proofs.lemmas.Bool.{cases_eq, cases_lt, false≢true}
use Rattle.std.proofs.lemmas.Map.Keys.{Less-from_sorted}
use Rattle.std.specs.Cmp.{nat_cmp_is}
use Rattle.std.specs.List.Sorted.{IsStrictlySortedBy}
use Rattle.std.specs.Ordering.{nat_cmp}
use Rattle.std.specs.declared.cmp.Ordering.{Ordering}
use Rattle.std.specs.declared.cmp.Ordering.TheVariants.{Less, Equal, Greater}
use Rattle.keymap_consequences.proofs.Common.{Bool, true, false}
use Rattle.keymap_consequences.proofs.Common.{cases_Bool}
use Rattle.std.proofs.lemmas.Cmp.{nat_cmp_total}
use Rattle.std.proofs.lemmas.Map.Lookups.{exact_unsigned}
use Rattle.std.proofs.lemmas.Map.Views.{btree_set_contains_iff}
use Rattle.std.specs.BTreeSet.{contains}
use Rattle.keymap_core.specs.Maps.{MapValue}
use Rattle.console_scripts.specs.Typing.{CanType}
use Rattle.keymap_consequences.specs.Consequences.{IsFarther, IsTypedAlone, TakesMore}
use Rattle.keymap_consequences.specs.Inner.Near.{AreTapsOf}
use Rattle.keymap_consequences.specs.declared.taps.Taps.{Taps}
use Rattle.keymap_consequences.specs.Lists.{ListsInOrder}

-- those before a place of which P holds
pub record KeptBelow (P : ℕ → Type 0) (xs : List ℕ) (i : ℕ) (ys : List ℕ) : Type 0 where
  pub all : (k d : ℕ) → k < i → k < length xs → P (get_or xs k d) → Contains ys (get_or xs k d)
  pub only : (y : ℕ) → Contains ys y → P y × ((k : ℕ) × (k < i) × (k < length xs) × (get_or xs k y ≡ y))
  pub in_order : AllPairs (λ x y. x < y) ys

pub kept-none : (P : ℕ → Type 0) (xs : List ℕ) → KeptBelow P xs 0 []
kept-none P xs = record {
  all = λ k d lt. absurd (omega (arith, lt));
  only = λ y has. let (k, lt, at) = has in absurd (omega (arith, lt));
  in_order = λ i j d before lt. absurd (omega (arith, lt));
}

pub kept-skip : (P : ℕ → Type 0) (xs : List ℕ) (i : ℕ) (ys : List ℕ) (x : ℕ) → KeptBelow P xs i ys → i < length xs
    → get_or xs i x ≡ x → (P x → ⊥) → KeptBelow P xs (i + 1) ys
kept-skip P xs i ys x s within at none = record {
  all = λ k d lt inside so. elim (place_last k i lt) [
    | inl before ↦ s.all k d before inside so
    | inr f ↦
        absurd (none (subst P (ap (λ z. get_or xs z d) f ∙ get_or_default xs i d x within ∙ at) so))
  ];
  only = λ y has. let (so, (k, lt, inside, there)) = s.only y has in (so, (k, omega (arith, lt), inside, there));
  in_order = s.in_order;
}

pub kept-push : (P : ℕ → Type 0) (xs : List ℕ) (i : ℕ) (ys : List ℕ) (x : ℕ) → KeptBelow P xs i ys
    → AllPairs (λ y z. y < z) xs → i < length xs → get_or xs i x ≡ x → P x → KeptBelow P xs (i + 1) (ys ++ x ∷ [])
kept-push P xs i ys x s sorted within at so = record {
  all = λ k d lt inside is. elim (place_last k i lt) [
    | inl before ↦ Contains-append_left ys (x ∷ []) (get_or xs k d) (s.all k d before inside is)
    | inr f ↦
        subst (λ z. Contains (ys ++ x ∷ []) z)
        (sym (ap (λ z. get_or xs z d) f ∙ get_or_default xs i d x within ∙ at)) (Contains-push ys x)
  ];
  only = λ y has. elim (Contains-push_cases ys x y has) [
    | inl old ↦ let (is, (k, lt, inside, there)) = s.only y old in (is, (k, omega (arith, lt), inside, there))
    | inr new ↦
        (subst P new so, (i, omega arith, within, subst (λ z. get_or xs i z ≡ z) new at))
  ];
  in_order = all_pairs_push (λ y z. y < z) ys x s.in_order (λ k d lt.
      let y = get_or ys k d in
      let (is, (j, before, inside, there)) = s.only y (k, lt, get_or_default ys k y d lt) in
      let less : get_or xs j x < get_or xs i x = sorted j i x before within in
      subst (λ z. z < x) (get_or_default xs j x y inside ∙ there)
      (subst (λ z. get_or xs j x < z) at less));
}

pub kept-all : (P Q : ℕ → Type 0) (xs : List ℕ) (i : ℕ) (ys : List ℕ) → KeptBelow P xs i ys → length xs ≤ i
    → ((x : ℕ) → Q x ↔ (Contains xs x × P x))
    → ListsInOrder (λ x. x) Q ys
kept-all P Q xs i ys s le same = record {
  all = λ x is.
      let ((k, lt, at), so) = (same x).0 is in
      subst (λ z. Contains ys z) at (s.all k x (omega (arith, lt, le)) lt (subst P (sym at) so));
  only = λ x has. let (so, (k, lt, inside, at)) = s.only x has in (same x).1 ((k, inside, at), so);
  in_order = s.in_order;
}

-- ---- sorted lists of numbers

abbrev is_less : Ordering → Bool
is_less Less = true
is_less _ = false

less-lt : (x y : ℕ) → nat_cmp x y ≡ Less → x < y
less-lt x y e = elim (cases_lt x y) [
  | inl lt ↦ lt
  | inr le ↦ elim (cases_eq x y) [
    | inl same ↦ absurd (false≢true (ap is_less (nat_cmp_is x y Equal same ∙ e)))
    | inr other ↦ absurd (false≢true (ap is_less (nat_cmp_is x y Greater (omega (arith, le, other)) ∙ e)))
  ]
]

pub sorted-pairs : (xs : List ℕ) → IsStrictlySortedBy nat_cmp xs → AllPairs (λ x y. x < y) xs
sorted-pairs xs sorted i j d before lt = less-lt _ _ (Less-from_sorted nat_cmp xs i j d sorted before lt)

-- ---- which stay

-- what is listed of the characters that keys can type
typed-listed : (m : MapValue) (x : Taps) (xs : List ℕ) → AreTapsOf m x → xs ≡ x.given.typed.keys → (c : ℕ)
    → CanType m c ↔ Contains xs c
typed-listed m x xs are e c = (
  (λ can. subst (λ ys. Contains ys c) (sym e) (are.0.0.all c can)),
  λ has. are.0.0.only c (subst (λ ys. Contains ys c) e has),
)

pub typed-has : (n : MapValue) (x : Taps) → AreTapsOf n x → (c : ℕ)
    → (contains nat_cmp x.given.typed c ≡ true) ↔ CanType n c
typed-has n x are c =
    let iff = btree_set_contains_iff nat_cmp_total exact_unsigned x.given.typed c in (
      (λ has. are.0.0.only c (iff.0 has)),
      λ can. iff.1 (are.0.0.all c can),
    )

pub typed-alone : (m n : MapValue) (x y : Taps) (xs : List ℕ) → AreTapsOf m x → AreTapsOf n y
    → xs ≡ x.given.typed.keys → (c : ℕ)
    → IsTypedAlone m n c ↔ (Contains xs c × (contains nat_cmp y.given.typed c ≡ false))
typed-alone m n x y xs are other e c = (
  (λ alone. (
    (typed-listed m x xs are e c).0 alone.0,
    elim (cases_Bool (contains nat_cmp y.given.typed c)) [
      | inl has ↦ absurd (alone.1 ((typed-has n y other c).0 has))
      | inr none ↦ none
    ],
  )),
  λ here. (
    (typed-listed m x xs are e c).1 here.0,
    λ can. false≢true (sym here.1 ∙ (typed-has n y other c).1 can),
  ),
)

pub typed-farther : (m n : MapValue) (x y : Taps) (xs : List ℕ) → AreTapsOf m x → AreTapsOf n y
    → xs ≡ x.given.typed.keys → (c : ℕ)
    → IsFarther m n c ↔ (Contains xs c × (CanType n c × TakesMore m n c))
typed-farther m n x y xs are other e c = (
  (λ far. ((typed-listed m x xs are e c).0 far.0, (far.1, far.2))),
  λ here. ((typed-listed m x xs are e c).1 here.0, here.1.0, here.1.1),
)
