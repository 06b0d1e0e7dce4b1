-- What no keys type, by what a search finds, and by what is typed for sure.
use Rattle.std.proofs.Common.{rules}
use Rattle.keymap_lint.proofs.Common.{◌≡◌, ◌∙◌, ℕ, ◌<◌, ◌≤◌, Bool, true, false, not, ◌&&◌, cond, List, [], ◌∷◌}
use Rattle.keymap_lint.proofs.Common.{◌++◌}
use Rattle.keymap_lint.proofs.Common.{MapValue, get_or, refl, sym, subst, arith, gathered, true≢false}
use Prim.Native.Nat.{zero, suc}
use Rattle.std.proofs.Common.{inl, inr, All}
use Rattle.std.proofs.Math.ListN.{set}
use Rattle.std.proofs.lemmas.Bool.{and_from, and_parts, cases_eq, cases_lt}
use Rattle.std.proofs.lemmas.Bool.Decides.{nat_tests}
use Rattle.std.proofs.lemmas.List.{append-nil, get_or-set_other}
use Rattle.std.proofs.lemmas.List.Elements.{All-cons, All-contains, All-head, All-nil, All-tail, Contains-append_left}
use Rattle.std.proofs.lemmas.List.Elements.{Contains-append_right, Contains-get_or}
use Rattle.std.proofs.lemmas.List.Kept.{IsStrictlyIncreasing-filter}
use Rattle.std.proofs.lemmas.List.Sums.{length-filter}
use Rattle.std.proofs.lemmas.Cmp.{nat_cmp_total}
use Rattle.std.proofs.lemmas.Map.Lookups.{exact_unsigned}
use Rattle.std.proofs.lemmas.Map.Views.{btree_set_contains_iff}
use Rattle.std.specs.BTreeSet.{BTreeSet, contains}
use Rattle.std.specs.List.{filter}
use Rattle.std.specs.List.Sorted.{IsStrictlyIncreasing}
use Rattle.std.specs.Ordering.{nat_cmp}
use Rattle.std.specs.Prelude.{Contains}
use Rattle.keymap_core.specs.Below.{passed}
use Rattle.console_scripts.specs.Typing.{CanType}
use Rattle.console_states.specs.Sights.{Lists}
use Rattle.keymap_lint.specs.Typed.{AreTold, AreToldOfFew, AreUntyped, LacksLetters, has_most_letters, is_letter, is_seen}
use Rattle.keymap_lint.specs.Ways.{AreSure, untyped_character}
use Rattle.keymap_lint.proofs.FaultOrder.{rises, suc_more}
use Rattle.keymap_lint.proofs.Lists.{all_passing}

-- ---- numbers that pass a test

passing_has : (test : ℕ → Bool) (n c : ℕ) → c < n → test c ≡ true → Contains (gathered (λ k. passed (test k) k) n) c
unfolding gathered
passing_has test zero c low e = absurd (omega (arith, low))
passing_has test (suc n) c low e = elim (cases_lt c n) [
  | inl l ↦
      Contains-append_left (gathered (λ k. passed (test k) k) n) (passed (test n) n) c (passing_has test n c l e)
  | inr h ↦
      let same : c ≡ n = omega (arith, low, h) in
      Contains-append_right (gathered (λ k. passed (test k) k) n) (passed (test n) n) c
      (subst (λ (k : ℕ). Contains (passed (test k) k) c) same (here (test c) e))
]
  where
    here : (b : Bool) → b ≡ true → Contains (passed b c) c
    here true e = (0, omega arith, refl)
    here false e = absurd (true≢false (sym e))

pub rising_tail : (x : ℕ) (xs : List ℕ) → IsStrictlyIncreasing (x ∷ xs) → IsStrictlyIncreasing xs
rising_tail x xs h k low =
    subst (λ (n : ℕ). get_or xs k 0 < get_or (x ∷ xs) n 0) (sym (suc_more k)) (h (suc k) (omega (arith, low)))

pub rising_last : (n : ℕ) (xs : List ℕ) → All (λ i. i < n) xs → IsStrictlyIncreasing xs
    → IsStrictlyIncreasing (xs ++ n ∷ [])
rising_last n [] all rise = λ k low. absurd (omega (arith, low))
rising_last n (x ∷ []) all rise = search (rules, rises, All-head, All-nil)
rising_last n (x ∷ y ∷ ys) all rise =
    rises x (y ∷ (ys ++ n ∷ [])) (λ low. rise 0 (omega arith))
    (rising_last n (y ∷ ys) (All-tail (λ i. i < n) x (y ∷ ys) all) (rising_tail x (y ∷ ys) rise))

passing_rises : (test : ℕ → Bool) (n : ℕ) → IsStrictlyIncreasing (gathered (λ k. passed (test k) k) n)
unfolding gathered
passing_rises test zero = λ k low. absurd (omega (arith, low))
passing_rises test (suc n) = one (test n) (passing_rises test n)
  where
    so_far : List ℕ
    so_far = gathered (λ k. passed (test k) k) n

    one : (b : Bool) → IsStrictlyIncreasing so_far → IsStrictlyIncreasing (so_far ++ passed b n)
    one true rise = rising_last n so_far (all_passing (λ i. i < n) test n (λ k low e. low)) rise
    one false rise = subst IsStrictlyIncreasing (sym (append-nil so_far)) rise

-- ---- what is typed for sure

-- one more is marked
pub marked : (m : MapValue) (sure : List Bool) (n : ℕ) → AreSure m sure → CanType m n → AreSure m (set sure n true)
marked m sure n are can c e = elim (cases_eq c n) [
  | inl same ↦ subst (CanType m) (sym same) can
  | inr other ↦ are c (sym (get_or-set_other sure n c true false other) ∙ e)
]

-- where all are typed, nothing is told
pub all_typed : (m : MapValue) → ((c : ℕ) → 0x20 ≤ c → c ≤ 0x7e → CanType m c) → AreTold m []
all_typed m can = inl (
  inl (
    record {
      ascending = λ k low. absurd (omega (arith, low));
      exactly = λ c. ((λ has. absurd (omega (arith, has.1))), (λ both. absurd (both.1 (seen c both.0))));
    },
    refl,
  ),
  λ many. refl,
)
  where
    seen : (c : ℕ) → is_seen c ≡ true → CanType m c
    seen c e = can c (grind (arith, nat_tests, e)) (grind (arith, nat_tests, e))

-- ---- what a search finds

untyped_by : (m : MapValue) (set : BTreeSet ℕ) → Lists (λ c. CanType m c) set.keys
    → AreUntyped m (gathered (untyped_character set) 127)
untyped_by m set are = record {
  ascending = passing_rises test 127;
  exactly = λ c. (
    (λ has. All-contains IsUntyped (gathered (untyped_character set) 127) c
        (all_passing IsUntyped test 127 (λ k low e. untyped k e)) has),
    (λ both. passing_has test 127 c (below c both.0)
        (and_from (is_seen c) _ both.0 (lacking c (contains nat_cmp set c) refl both.1))),
  );
}
  where
    test : ℕ → Bool
    test c = is_seen c && not (contains nat_cmp set c)

    IsUntyped : ℕ → Type 0
    IsUntyped c = (is_seen c ≡ true) × (CanType m c → ⊥)

    among : (c : ℕ) → CanType m c → contains nat_cmp set c ≡ true
    among c can = (btree_set_contains_iff nat_cmp_total exact_unsigned set c).1 (are.all c can)

    without : (c : ℕ) (b : Bool) → contains nat_cmp set c ≡ b → not b ≡ true → CanType m c → ⊥
    without c true f e can = true≢false (sym e)
    without c false f e can = true≢false (sym (among c can) ∙ f)

    untyped : (c : ℕ) → test c ≡ true → IsUntyped c
    untyped c e = search (rules, and_parts, without)

    lacking : (c : ℕ) (b : Bool) → contains nat_cmp set c ≡ b → (CanType m c → ⊥) → not b ≡ true
    lacking c true f cannot =
        absurd (cannot (are.only c ((btree_set_contains_iff nat_cmp_total exact_unsigned set c).0 f)))
    lacking c false f cannot = refl

    below : (c : ℕ) → is_seen c ≡ true → c < 127
    below c e = grind (arith, nat_tests, e)

-- the letters among them
lacks : (m : MapValue) (cs : List ℕ) → AreUntyped m cs → has_most_letters cs ≡ false → LacksLetters m
lacks m cs are e = record {
  letters = filter is_letter cs;
  ascending = IsStrictlyIncreasing-filter is_letter cs are.ascending;
  untyped = letters cs (λ k d l. ((are.exactly (get_or cs k d)).0 (Contains-get_or cs k d l)).1);
  many = grind (arith, nat_tests, length-filter is_letter cs, e);
}
  where
    letters : (xs : List ℕ) → All (λ c. CanType m c → ⊥) xs
        → All (λ c. (is_letter c ≡ true) × (CanType m c → ⊥)) (filter is_letter xs)
    letters [] all = All-nil (λ c. (is_letter c ≡ true) × (CanType m c → ⊥))
    letters (x ∷ xs) all =
        go (is_letter x) refl (letters xs (All-tail (λ c. CanType m c → ⊥) x xs all))
      where
        go : (b : Bool) → is_letter x ≡ b → All (λ c. (is_letter c ≡ true) × (CanType m c → ⊥)) (filter is_letter xs)
            → All (λ c. (is_letter c ≡ true) × (CanType m c → ⊥))
            (cond b (x ∷ filter is_letter xs) (filter is_letter xs))
        go true f more = search (rules, All-cons, All-head)
        go false f more = more

-- where these are the ones, they are told or too many letters are among them
pub told_yes : (m : MapValue) (set : BTreeSet ℕ) (cs : List ℕ) → cs ≡ gathered (untyped_character set) 127
    → has_most_letters cs ≡ true → Lists (λ c. CanType m c) set.keys → AreToldOfFew m cs
told_yes m set cs same e are = inl (subst (AreUntyped m) (sym same) (untyped_by m set are), e)

pub told_no : (m : MapValue) (set : BTreeSet ℕ) (cs : List ℕ) → cs ≡ gathered (untyped_character set) 127
    → has_most_letters cs ≡ false → Lists (λ c. CanType m c) set.keys → AreToldOfFew m []
told_no m set cs same e are =
    inr (refl, lacks m cs (subst (AreUntyped m) (sym same) (untyped_by m set are)) e)
