-- The numbers below a bound: the first that passes a test, all that do, and lists gathered from all.
use Prim.Native.Nat.{zero, suc}
use Rattle.std.specs.Prelude.{ℕ, Bool, List, [], ◌∷◌, ◌++◌, Option, None, Some, if◌then◌else◌}
use Rattle.std.specs.Option.{option_or}

-- the least number below n that passes the test
unfoldable pub first_below : (ℕ → Bool) → ℕ → Option ℕ
first_below test zero = None
first_below test (suc n) = option_or (first_below test n) (if test n then Some n else None)

-- the lists of the numbers below n, in their order
unfoldable pub gathered : {A : Type 0} → (ℕ → List A) → ℕ → List A
gathered f zero = []
gathered f (suc n) = gathered f n ++ f n

-- the number, if it passes
abbrev pub passed : Bool → ℕ → List ℕ
passed passes n = if passes then n ∷ [] else []

-- the numbers below n that pass the test, in their order
unfoldable pub passing : (ℕ → Bool) → ℕ → List ℕ
passing test n = gathered (λ i. passed (test i) i) n
