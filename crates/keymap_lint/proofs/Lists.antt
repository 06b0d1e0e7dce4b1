-- Loops that put one list together, element by element.
use Rattle.std.proofs.Common.{rules}
use Rattle.keymap_lint.proofs.Common.{◌≡◌, ◌+◌, ◌<◌, ℕ, List, [], ◌∷◌, ◌++◌, length, get_or, take, map}
use Rattle.keymap_lint.proofs.Common.{arith, range_with_len, flat_map, gathered}
use Prim.Native.Nat.{zero, suc}
use Rattle.keymap_lint.proofs.Common.{Bool, true, false, refl}
use Rattle.std.proofs.Common.{All, ◌==◌, append_assoc}
use Rattle.std.proofs.lemmas.List.Elements.{All-append, All-cons, All-nil}
use Rattle.keymap_core.specs.Below.{passed}
use Rattle.keymap_lint.specs.Alphabets.{standing_letter, times}
use Rattle.std.proofs.lemmas.List.{append-nil, flat_map_more, take_more}
use Rattle.std.proofs.lemmas.List.FromFn.{map-range_with_len_more}
use Rattle.keymap_core.proofs.Shared.{any-none, any-start, gathered-more, gathered-none}

-- an element behind those of the numbers below n
pub map_step : {X : Type 0} (f : ℕ → X) (old xs ys : List X) (n : ℕ) (x : X)
    → xs ≡ old ++ map f (range_with_len 0 n) → x ≡ f n → ys ≡ xs ++ x ∷ []
    → ys ≡ old ++ map f (range_with_len 0 (n + 1))
map_step f old xs ys n x so_far is push =
    cc (append_assoc old (map f (range_with_len 0 n)) (x ∷ []), map-range_with_len_more f 0 n n (omega arith))

-- what an element of a list gives, behind what those before it give
pub flat_step : {X Y : Type 0} (f : X → List Y) (xs zs : List X) (i : ℕ) (x d : X) (front old new more : List Y)
    → zs ≡ xs → i < length zs → x ≡ get_or zs i d → old ≡ front ++ flat_map f (take i xs) → more ≡ f x
    → new ≡ old ++ more → new ≡ front ++ flat_map f (take (i + 1) xs)
flat_step f xs zs i x d front old new more same l is so_far gives push =
    search (rules, take_more, flat_map_more)

-- what a number gives, behind what is gathered below it
pub gathered_step : {Y : Type 0} (f : ℕ → List Y) (n : ℕ) (front old new more : List Y) → old ≡ front ++ gathered f n
    → more ≡ f n → new ≡ old ++ more → new ≡ front ++ gathered f (n + 1)
gathered_step f n front old new more so_far gives push =
    cc (append_assoc front (gathered f n) (f n), gathered-more f n)

-- what is gathered below one number more, behind other elements too
pub ruleset gathered_rules = (gathered-none, gathered-more, append-nil, append_assoc)

-- what holds of each list holds of what is gathered
pub all_gathered : {Y : Type 0} (P : Y → Type 0) (f : ℕ → List Y) (n : ℕ) → ((k : ℕ) → k < n → All P (f k))
    → All P (gathered f n)
unfolding gathered
all_gathered P f zero h = All-nil P
all_gathered P f (suc n) h =
    All-append P (gathered f n) (f n) (all_gathered P f n (λ k low. h k (omega (arith, low)))) (h n (omega arith))

-- and of the numbers that pass a test
pub all_passing : (P : ℕ → Type 0) (test : ℕ → Bool) (n : ℕ) → ((k : ℕ) → k < n → test k ≡ true → P k)
    → All P (gathered (λ k. passed (test k) k) n)
all_passing P test n h = all_gathered P (λ k. passed (test k) k) n (λ k low. one k (test k) (h k low))
  where
    one : (k : ℕ) (b : Bool) → (b ≡ true → P k) → All P (passed b k)
    one k true g = All-cons P k [] (g refl) (All-nil P)
    one k false g = All-nil P

pub all_standing : (ls : List ℕ) (n : ℕ) → All (λ i. i < 26) (gathered (standing_letter ls n) 26)
all_standing ls n = all_passing (λ i. i < 26) (λ i. times ls i == n) 26 (λ k low e. low)

-- whether some number below one more passes
pub ruleset any_rules = (any-start, any-none)
