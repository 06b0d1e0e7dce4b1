-- Complete lists in their order.
use Rattle.std.specs.Prelude.{◌≡◌, ◌<◌, ℕ, List}
use Rattle.std.specs.List.{All, AllPairs, Any, Contains}

-- All of which P holds, each once, in the order of their numbers.
pub record ListsInOrder {X : Type 0} (number : X → ℕ) (P : X → Type 0) (xs : List X) : Type 0 where
  pub all : (x : X) → P x → Contains xs x
  pub only : (x : X) → Contains xs x → P x
  pub in_order : AllPairs (λ x y. number x < number y) xs

-- P holds of each, and one stands there for each number that is wanted, in the order of the numbers.
pub record StandForEach {X : Type 0} (number : X → ℕ) (P : X → Type 0) (IsWanted : ℕ → Type 0) (xs : List X)
    : Type 0 where
  pub each : All P xs
  pub complete : (n : ℕ) → IsWanted n → Any (λ x. number x ≡ n) xs
  pub in_order : AllPairs (λ x y. number x < number y) xs
