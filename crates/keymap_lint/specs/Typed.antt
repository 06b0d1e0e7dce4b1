-- Which characters of ASCII no keys type, and when that is told.
use Rattle.std.specs.Prelude.{◌≡◌, ◌↔◌, ℕ, ◌<◌, Bool, true, ◌||◌, nat_le, if◌then◌else◌, ◌⊎◌, List, [], ◌∷◌, All}
use Rattle.std.specs.Prelude.{Contains}
use Rattle.std.specs.Prelude.{count_by, length}
use Rattle.std.specs.List.Sorted.{IsStrictlyIncreasing}
use Rattle.keymap_core.specs.Actions.{within}
use Rattle.keymap_core.specs.Maps.{MapValue}
use Rattle.console_scripts.specs.Typing.{CanType}
use Rattle.console_states.specs.Moves.{alone}
use Rattle.console_states.specs.Sticking.{ReachesMoreThan, state_limit}
use Rattle.keymap_lint.specs.Types.{Diagnostic}
use Rattle.keymap_lint.specs.declared.diagnostic.Kind.TheVariants as kinds
use Rattle.keymap_lint.specs.Kinds.{nowhere, is_some_in}

-- the blank and the characters of ASCII that are seen, and the letters among them
abbrev pub is_seen : ℕ → Bool
is_seen c = within 0x20 0x7e c

abbrev pub is_letter : ℕ → Bool
is_letter c = within 65 90 c || within 97 122 c

-- those of them that no keys type, in ascending order
pub record AreUntyped (m : MapValue) (cs : List ℕ) : Type 0 where
  pub ascending : IsStrictlyIncreasing cs
  pub exactly : (c : ℕ) → Contains cs c ↔ ((is_seen c ≡ true) × (CanType m c → ⊥))

-- of the 52 letters at least 40 have keys
abbrev pub has_most_letters : List ℕ → Bool
has_most_letters cs = nat_le (count_by is_letter cs) 12

-- more than 12 of them have none
pub record LacksLetters (m : MapValue) : Type 0 where
  pub letters : List ℕ
  pub ascending : IsStrictlyIncreasing letters
  pub untyped : All (λ c. (is_letter c ≡ true) × (CanType m c → ⊥)) letters
  pub many : 12 < length letters

-- CANNOT TYPE, where no more states can be reached than a search goes over: these are told, or nothing is, where so many
-- letters have no keys
abbrev pub AreToldOfFew : MapValue → List ℕ → Type 0
AreToldOfFew m cs = (AreUntyped m cs × (has_most_letters cs ≡ true)) ⊎ ((cs ≡ []) × LacksLetters m)

-- more can be reached
abbrev pub HasManyStates : MapValue → Type 0
HasManyStates m = (p : ℕ) × ReachesMoreThan (alone m) state_limit p

-- and nothing is told where more can be
abbrev pub AreTold : MapValue → List ℕ → Type 0
AreTold m cs = (AreToldOfFew m cs × (HasManyStates m → cs ≡ [])) ⊎ ((cs ≡ []) × HasManyStates m)

abbrev pub cannot_type : List ℕ → List Diagnostic
cannot_type cs = if is_some_in cs then nowhere kinds.CannotType ∷ [] else []
