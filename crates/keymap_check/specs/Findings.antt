-- What the findings say of a map.
use Rattle.std.specs.Prelude.{◌≡◌, ℕ, ◌<◌, ◌≤◌, ◌+◌, ◌⊎◌, List, All, AllPairs, Any}
use Rattle.keymap_check.specs.Types.{Holding, Cell, Char, Act, Finding, Place}
use Rattle.keymap_core.specs.Actions.{holding_action}
use Rattle.keymap_core.specs.Maps.{MapValue, cell_at}
use Rattle.keymap_core.specs.Bearers.{IsUpperLive, IsCellOf, Bears}
use Rattle.keymap_core.specs.Numbers.{key_count, column_count}

-- the place is that of one of the key's cells
abbrev pub IsPlaceOf : MapValue → ℕ → Place → Type 0
IsPlaceOf m k p = (p.column < column_count) × ((p.slot ≡ k) ⊎ (IsUpperLive m × (p.slot ≡ k + key_count)))

-- the lower slot comes first, then the lesser column
abbrev pub NotAfter : Place → Place → Type 0
NotAfter p q = (p.slot < q.slot) ⊎ ((p.slot ≡ q.slot) × (p.column ≤ q.column))

-- the first of the key's places whose cell has the property
abbrev pub IsFirstOf : MapValue → ℕ → (Cell → Type 0) → Place → Type 0
IsFirstOf m k P p =
    IsPlaceOf m k p × P (cell_at m p.slot p.column)
    × ((q : Place) → IsPlaceOf m k q → P (cell_at m q.slot q.column) → NotAfter p q)

abbrev pub IsHoldingCell : Cell → Type 0
IsHoldingCell x = (a : Holding) × (x ≡ Act (holding_action a))

abbrev pub IsCharacterCell : Cell → Type 0
IsCharacterCell x = (c : ℕ) × (x ≡ Char c)

-- a finding names a key, its first holding action and its first character
pub record IsFinding (m : MapValue) (f : Finding) : Type 0 where
  pub key : f.key < key_count
  pub holding : cell_at m f.holding_at.slot f.holding_at.column ≡ Act (holding_action f.holding)
  pub first_holding : IsFirstOf m f.key IsHoldingCell f.holding_at
  pub first_character : IsFirstOf m f.key IsCharacterCell f.character_at

-- the key has both a modifier or lock and a character among its cells
abbrev pub IsUnsafeKey : MapValue → ℕ → Type 0
IsUnsafeKey m k = (a : Holding) × Bears m k a × ((c : ℕ) × IsCellOf m k (Char c))

-- the finding of the least key that makes the map refused
pub record IsFirstFinding (m : MapValue) (f : Finding) : Type 0 where
  pub finding : IsFinding m f
  pub least : (k : ℕ) → k < key_count → IsUnsafeKey m k → f.key ≤ k

-- a finding for each key that makes the map refused, in the order of the keys
pub record AreFindings (m : MapValue) (fs : List Finding) : Type 0 where
  pub each : All (IsFinding m) fs
  pub in_order : AllPairs (λ f g. f.key < g.key) fs
  pub complete : (k : ℕ) → k < key_count → IsUnsafeKey m k → Any (λ f. f.key ≡ k) fs
