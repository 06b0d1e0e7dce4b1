-- Lists and options, where std has no such lemma.
use Rattle.keymap_core.proofs.Common.{zero, suc, ◌≡◌, ℕ, Bool, true, false, cond, List, [], ◌∷◌, get_or, replicate}
use Rattle.keymap_core.proofs.Common.{Option, Some, None, refl, sym, ap, subst, ◌∙◌, inl, inr, map, ◌+◌, ◌<◌, ◌≤◌}
use Rattle.keymap_core.proofs.Common.{arith, All, find, list_any, range_with_len, option_or, or_cases, true≢false}
use Rattle.keymap_core.proofs.Common.{none-some, same_Some}
use Rattle.std.specs.Prelude.{reverse}
use Rattle.std.proofs.Math.Nat.{eq-or-lt_of_le}
use Rattle.std.proofs.lemmas.List.{reverse-append}
use Rattle.std.proofs.lemmas.List.Elements.{All-nil, All-cons, All-append, All-head, All-tail}

-- a list of one value, read anywhere, with that value in place of what isn't there
pub get_or-replicate_default : {X : Type 0} (n i : ℕ) (d : X) → get_or (replicate n d) i d ≡ d
get_or-replicate_default zero i d = refl
get_or-replicate_default (suc n) zero d = refl
get_or-replicate_default (suc n) (suc i) d = get_or-replicate_default n i d

-- what holds for a list holds for it reversed
pub All-reversed : {X : Type 0} (P : X → Type 0) (xs : List X) → All P xs → All P (reverse xs)
All-reversed P [] all = All-nil P
All-reversed P (x ∷ xs) all =
    subst (All P) (sym (reverse-append (x ∷ []) xs))
    (All-append P (reverse xs) (x ∷ []) (All-reversed P xs (All-tail P x xs all))
    (All-cons P x [] (All-head P x xs all) (All-nil P)))

-- the step of the next lemma, by the test of the first element
found-by : {X : Type 0} (test : X → Bool) (y x : X) (b : Bool) (o : Option X) → test y ≡ b → cond b (Some y) o ≡ Some x
    → (o ≡ Some x → test x ≡ true) → test x ≡ true
found-by test y x true o t s f = let q : y ≡ x = same_Some y x s in ap test (sym q) ∙ t
found-by test y x false o t s f = f s

-- what is found passes the test
pub find-true : {X : Type 0} (test : X → Bool) (xs : List X) (x : X) → find test xs ≡ Some x → test x ≡ true
find-true test [] x e = absurd (none-some x e)
find-true test (y ∷ ys) x e = found-by test y x (test y) (find test ys) refl e (find-true test ys x)

-- where some element passes the test, here is one
pub one-of-any : {X : Type 0} (test : X → Bool) (xs : List X) → list_any test xs ≡ true → (x : X) × (test x ≡ true)
one-of-any test [] e = absurd (true≢false (sym e))
one-of-any test (x ∷ xs) e =
    elim (or_cases (test x) (list_any test xs) e) [ inl passes ↦ (x, passes) | inr later ↦ one-of-any test xs later ]

pub option_or-none : {X : Type 0} (o : Option X) → option_or o None ≡ o
option_or-none None = refl
option_or-none (Some x) = refl

-- what is no value is nothing
pub none_unless : {X : Type 0} (o : Option X) → ((x : X) → o ≡ Some x → ⊥) → o ≡ None
none_unless None f = refl
none_unless (Some x) f = absurd (f x refl)

-- equal lists have equal first elements and equal rests
same_parts : {A : Type 0} (x y : A) (xs ys : List A) → x ∷ xs ≡ y ∷ ys → (x ≡ y) × (xs ≡ ys)
same_parts x y xs ys h = ((cc), (cc))

-- two tables that are equal up to a length are equal at each place below it
pub along : {A : Type 0} (f g : ℕ → A) (from n : ℕ) → map f (range_with_len from n) ≡ map g (range_with_len from n)
    → (k : ℕ) → from ≤ k → k < from + n → f k ≡ g k
along f g from zero h k low high = absurd (omega arith)
along f g from (suc n) h k low high =
    elim (eq-or-lt_of_le low) [
      | inl same ↦ subst (λ j. f j ≡ g j) same (same_parts _ _ _ _ h).0
      | inr above ↦ along f g (from + 1) n (same_parts _ _ _ _ h).1 k (omega arith) (omega arith)
    ]
