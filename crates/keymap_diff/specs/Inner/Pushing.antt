-- What is pushed behind a list of changes.
use Rattle.std.specs.Prelude.{◌≡◌, ◌≢◌, ℕ, ◌<◌, ◌≤◌, List, ◌++◌, Option, Some, None}
use Rattle.std.specs.List.{AllPairs}
use Rattle.keymap_core.specs.Accents.{first_result}
use Rattle.console_states.specs.Sights.{Enumerates}
use Rattle.keymap_diff.specs.Changes.{place_of}
use Rattle.keymap_diff.specs.Inner.Versions.{IsChangeOf}
use Rattle.keymap_diff.specs.Types.{Change, Pair, Versions}

-- What is pushed is all of which P holds, each once, by their places.
pub record Pushes (P : Change → Type 0) (old now : List Change) : Type 0 where
  pub more : List Change
  pub is : now ≡ old ++ more
  pub each : Enumerates P more
  pub in_order : AllPairs (λ x y. place_of x ≤ place_of y) more

-- P holds of this change alone, or of none
abbrev pub IsOne : (Change → Type 0) → Option Change → Type 0
IsOne P None = (x : Change) → P x → ⊥
IsOne P (Some x) = P x × ((y : Change) → P y → x ≡ y)

-- the changes at a place, and at those from one on to before another
abbrev pub IsAt : Versions → ℕ → Change → Type 0
IsAt v at x = IsChangeOf v x × (place_of x ≡ at)

abbrev pub IsBetween : Versions → ℕ → ℕ → Change → Type 0
IsBetween v low high x = IsChangeOf v x × (low ≤ place_of x) × (place_of x < high)

abbrev pub PushesAt : Versions → ℕ → List Change → List Change → Type 0
PushesAt v at old now = Pushes (IsAt v at) old now

abbrev pub PushesPlaces : Versions → ℕ → ℕ → List Change → List Change → Type 0
PushesPlaces v low high old now = Pushes (IsBetween v low high) old now

-- a change of a pair with such a base
abbrev pub IsOfBase : ℕ → (ℕ → Type 0) → Change → Type 0
IsOfBase i P (Pair j base a b u) = (j ≡ i) × P base
IsOfBase i P _ = ⊥

abbrev pub IsOfBaseIn : Versions → ℕ → (ℕ → Type 0) → Change → Type 0
IsOfBaseIn v i P x = IsChangeOf v x × IsOfBase i P x

-- one of the pairs has the base
abbrev pub HasBase : List (ℕ × ℕ) → ℕ → Type 0
HasBase pairs base = first_result pairs base ≢ None

-- a base of these pairs that none before them has
abbrev pub IsNewBase : List (ℕ × ℕ) → List (ℕ × ℕ) → ℕ → Type 0
IsNewBase before pairs base = HasBase pairs base × (first_result before base ≡ None)

abbrev pub PushesBases : Versions → ℕ → List (ℕ × ℕ) → List (ℕ × ℕ) → List Change → List Change → Type 0
PushesBases v i before pairs old now = Pushes (IsOfBaseIn v i (IsNewBase before pairs)) old now
