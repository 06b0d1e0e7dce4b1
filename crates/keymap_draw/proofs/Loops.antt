-- Texts and lists that are put together in a loop.
use Rattle.keymap_draw.proofs.Common.{zero, suc, ◌≡◌, ℕ, ◌+◌, ◌<◌, ◌≤◌, Bool, true, false, List, [], ◌∷◌, ◌++◌, length}
use Rattle.keymap_draw.proofs.Common.{drop, get_or, append_assoc, append-nil, All, sym, ap, ◌∙◌, arith, All-append}
use Rattle.keymap_draw.proofs.Common.{All-cons, All-nil, None, slice_get, slice_index_or, gathered, passing, passed}
use Rattle.keymap_draw.proofs.Common.{Fact, numbered}
use Rattle.std.proofs.Common.{add-one, drop-cons}
use Rattle.std.proofs.Math.ListN.{drop_of_length-le}
use Rattle.std.specs.Option.{unwrap_or}
use Rattle.std.proofs.lemmas.Option.{unwrap_or-slice_get}
use Rattle.keymap_core.proofs.Shared.{gathered-more, gathered-none}

-- nothing is left to add
pub numbered_end : {A : Type 0} (f : ℕ → A → List Fact) (xs : List A) (i : ℕ) (old all : List Fact) → length xs ≤ i
    → old ++ numbered f i (drop i xs) ≡ all → old ≡ all
unfolding numbered
numbered_end f xs i old all past before =
    sym (append-nil old) ∙ ap (λ l. old ++ numbered f i l) (sym (drop_of_length-le xs past)) ∙ before

-- what is left to add, once the facts of the element at a place are added
pub numbered_at : {A : Type 0} (f : ℕ → A → List Fact) (xs : List A) (i : ℕ) (d : A) (old new all : List Fact)
    → i < length xs → new ≡ old ++ f i (get_or xs i d)
    → old ++ numbered f i (drop i xs) ≡ all
    → new ++ numbered f (i + 1) (drop (i + 1) xs) ≡ all
unfolding numbered
numbered_at f xs i d old new all inside added before =
    let first : drop i xs ≡ get_or xs i d ∷ drop (i + 1) xs = rw add-one (drop-cons xs i d inside) in
    ap (λ l. l ++ numbered f (i + 1) (drop (i + 1) xs)) added
    ∙ append_assoc old (f i (get_or xs i d)) (numbered f (i + 1) (drop (i + 1) xs))
    ∙ ap (λ l. old ++ numbered f i l) (sym first)
    ∙ before

-- the numbers below n + 1 that pass: those below n, and n if it passes
pub passing-more : (test : ℕ → Bool) (n : ℕ) → passing test (n + 1) ≡ passing test n ++ passed (test n) n
unfolding passing
passing-more test n = gathered-more (λ i. passed (test i) i) n

-- what is empty has all that pass below 0
pub passing-start : (test : ℕ → Bool) (old : List ℕ) → old ≡ [] → old ≡ passing test 0
unfolding passing
passing-start test old e = e ∙ sym (gathered-none (λ i. passed (test i) i))

passed-below : (b : Bool) (n k : ℕ) → n < k → All (λ i. i < k) (passed b n)
passed-below true n k h = All-cons (λ i. i < k) n [] h (All-nil (λ i. i < k))
passed-below false n k h = All-nil (λ i. i < k)

-- what passes is below the bound
pub passing-below : (test : ℕ → Bool) (n k : ℕ) → n ≤ k → All (λ i. i < k) (passing test n)
unfolding passing gathered
passing-below test zero k h = All-nil (λ i. i < k)
passing-below test (suc n) k h =
    All-append (λ i. i < k) (passing test n) (passed (test n) n) (passing-below test n k (omega arith))
    (passed-below (test n) n k (omega arith))

-- past the end there is only what stands for it
pub none_is : {A : Type 0} (xs : List A) (i : ℕ) (d : A) → slice_get xs i ≡ None → slice_index_or xs i d ≡ d
none_is xs i d e = sym (unwrap_or-slice_get xs i d) ∙ ap (λ o. unwrap_or o d) e

-- three parts behind others, four and five
pub three : {A : Type 0} (s a b c : List A) → s ++ a ++ b ++ c ≡ s ++ (a ++ b ++ c)
three s a b c = sym (simp append_assoc)

pub four : {A : Type 0} (s a b c d : List A) → s ++ a ++ b ++ c ++ d ≡ s ++ (a ++ b ++ c ++ d)
four s a b c d = sym (simp append_assoc)

pub five : {A : Type 0} (s a b c d e : List A)
    → s ++ a ++ b ++ c ++ d ++ e ≡ s ++ (a ++ b ++ c ++ d ++ e)
five s a b c d e = sym (simp append_assoc)

pub ruleset passing_rules = (passing-start, passing-more)
