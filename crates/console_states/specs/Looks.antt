-- What a look over the states that were met tells, and what it tells of all that moves lead to. Mirrors src/look.rt.
use Rattle.std.specs.Prelude.{◌≡◌, ◌<◌, ℕ, List, Option, Some, slice_get, length, MatchOption}
use Rattle.console_states.specs.declared.held.Held.{Held}
use Rattle.console_states.specs.declared.held.Move.{Move}
use Rattle.console_states.specs.declared.look.KeyAt.{KeyAt}
use Rattle.console_states.specs.Moves.{Under, State, HolderForgets, IsForgetful, IsPathFrom, presses_along, state_from}
use Rattle.console_states.specs.Moves.{state_of}
use Rattle.console_states.specs.Searching.{Entry, Entries}
use Rattle.keymap_core.specs.declared.action.Modifier.{Modifier}

-- P holds of each state below the place
abbrev pub HoldsBelow : (Held → Type 0) → Entries → ℕ → Type 0
HoldsBelow P es n = (j : ℕ) (x : Entry) → slice_get es j ≡ Some x → j < n → P x.0

-- Q holds of the key and the state at the place
abbrev pub HoldsAt : (Held → ℕ → Type 0) → Entries → KeyAt → Type 0
HoldsAt Q es at = (x : Entry) × (slice_get es at.place ≡ Some x) × Q x.0 at.key

-- the first place where Q holds of a key, and P below it; where there is none, P everywhere
pub record IsLook (P : Held → Type 0) (Q : Held → ℕ → Type 0) (es : Entries) (o : Option KeyAt) : Type 0 where
  pub is : MatchOption o (HoldsBelow P es (length es)) (λ at. HoldsAt Q es at × HoldsBelow P es at.place)

-- Q holds of no key anywhere
abbrev pub IsNowhere : (Held → ℕ → Type 0) → Entries → Type 0
IsNowhere Q es = HoldsBelow (λ h. (k : ℕ) → Q h k → ⊥) es (length es)

-- the first place where Q holds of a key
abbrev pub IsFirst : (Held → ℕ → Type 0) → Entries → Option KeyAt → Type 0
IsFirst Q es o = IsLook (λ h. (k : ℕ) → Q h k → ⊥) Q es o

-- the first place where a key that holds a modifier looks up a character
abbrev pub IsFirstStuck : Under → Entries → Option KeyAt → Type 0
IsFirstStuck u es o =
    IsLook (λ h. IsForgetful u (state_of h) → ⊥) (λ h k. (i : Modifier) × HolderForgets u (state_of h) i k) es o

-- P holds in each state to which fewer than n presses lead
abbrev pub HoldsNearer : Under → State → (State → Type 0) → ℕ → Type 0
HoldsNearer u s P n =
    (path : List Move) → IsPathFrom u s path → presses_along path < n → P (state_from u s path)
