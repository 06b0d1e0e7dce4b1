-- Which keys the tried scripts press, as statements on the map.
use Rattle.std.specs.Prelude.{◌≡◌, ◌≢◌, ◌↔◌, ℕ, ◌<◌, true, Option, None, Some}
use Rattle.keymap_check.specs.Types.{Modifier, Group}
use Rattle.keymap_core.specs.declared.action.Holding.TheVariants as holding
use Rattle.keymap_core.specs.Maps.{MapValue}
use Rattle.keymap_core.specs.Bearers.{Bears}
use Rattle.keymap_core.specs.Numbers.{key_count}
use Rattle.keymap_check.specs.Computed.{findings_at}
use Rattle.keymap_check.specs.Findings.{IsUnsafeKey}
use Rattle.keymap_check.specs.Scripts.{bit_key, has_some}
use Rattle.keymap_check.specs.Shown.{group_of, bit_of_group}

-- the key bears a modifier of the group
abbrev pub BearsGroup : MapValue → ℕ → Group → Type 0
BearsGroup m j g = (i : Modifier) × (group_of i ≡ Some g) × Bears m j (holding.Mod i)

-- the least key other than k that bears a modifier of the group, if there is one
abbrev pub IsBitKey : MapValue → ℕ → Group → Option ℕ → Type 0
IsBitKey m k g None = (j : ℕ) → j < key_count → j ≢ k → BearsGroup m j g → ⊥
IsBitKey m k g (Some j) =
    (j < key_count) × (j ≢ k) × BearsGroup m j g × ((i : ℕ) → i < j → i ≢ k → BearsGroup m i g → ⊥)

abbrev pub BitKeysAreLeast : Type 0
BitKeysAreLeast = (m : MapValue) (k : ℕ) (g : Group) → IsBitKey m k g (bit_key m k (bit_of_group g))

-- the keys that are tried are those that make the map refused
abbrev pub TriedKeysAreUnsafe : Type 0
TriedKeysAreUnsafe = (m : MapValue) (k : ℕ) → (has_some (findings_at m k) ≡ true) ↔ IsUnsafeKey m k
