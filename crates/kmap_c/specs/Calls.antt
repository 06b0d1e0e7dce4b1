-- What calls of the library do one after another. Numbers of delivered events stand newest first.
use Prim.Native.Nat.{suc}
use Rattle.std.specs.Prelude.{◌≡◌, ℕ, ◌<◌, ◌≤◌, ◌-◌, ◌==◌, ◌⊎◌, All, nat_le, Bool, true, false, not, ◌&&◌, ◌||◌, List}
use Rattle.std.specs.Prelude.{[], ◌∷◌, map, if◌then◌else◌}
use Rattle.keymap_core.specs.declared.action.Modifier.{Modifier}
use Rattle.keymap_core.specs.declared.action.Holding.{Holding}
use Rattle.keymap_core.specs.declared.action.Holding.TheVariants as holding
use Rattle.keymap_core.specs.Bearers.{Bears, BearsThroughout}
use Rattle.keymap_core.specs.Bounds.{IsMap}
use Rattle.keymap_core.specs.Maps.{MapValue}
use Rattle.keymap_core.specs.Numbers.{key_count}
use Rattle.keymap_tables.specs.Image.{image}
use Rattle.console_core.specs.declared.word_store.WordStore.{WordStore}
use Rattle.console_core.specs.Headline.{IsSafe}
use Rattle.console_core.specs.History.{between}
use Rattle.console_core.specs.Packed.{KeptAt}
use Rattle.kmap_c.specs.Numbers.{event_of}

-- the tables of a keymap
abbrev pub AreTables : List ℕ → Type 0
AreTables tables = (m : MapValue) × IsMap m × (tables ≡ image m)

-- the tables of a keymap that kmap_accepts accepts
abbrev pub AreAccepted : List ℕ → Type 0
AreAccepted tables = (m : MapValue) × IsMap m × (tables ≡ image m) × IsSafe m

-- the console was begun by kmap_start, and then these events were delivered to it between these tables
abbrev pub WasDelivered : List ℕ → List ℕ → List ℕ → WordStore → Type 0
WasDelivered first second numbers store =
    (m n : MapValue) → IsMap m → IsMap n → first ≡ image m → second ≡ image n
    → KeptAt (between m n) (map event_of numbers) store

-- the key's last press came after its last release, reset or load
abbrev pub is_down : ℕ → List ℕ → Bool
is_down k [] = false
is_down k (n ∷ before) =
    if nat_le n 127 then (n == k) || is_down k before
    else if nat_le n 255 then not ((n - 128) == k) && is_down k before
    else false

-- an odd number of loads was delivered
abbrev pub is_exchanged : List ℕ → Bool
is_exchanged [] = false
is_exchanged (n ∷ before) = if nat_le n 256 then is_exchanged before else not (is_exchanged before)

-- the tables in force
abbrev pub in_force_after : List ℕ → List ℕ → List ℕ → List ℕ
in_force_after first second numbers = if is_exchanged numbers then second else first

-- the modifier stands in a cell of the key
abbrev pub Has : List ℕ → ℕ → Modifier → Type 0
Has tables k i = (m : MapValue) × IsMap m × (tables ≡ image m) × Bears m k (holding.Mod i)

-- some key is down that has the modifier
abbrev pub IsHeldDown : List ℕ → Modifier → List ℕ → Type 0
IsHeldDown tables i numbers = (k : ℕ) × (k < key_count) × (is_down k numbers ≡ true) × Has tables k i

-- each key is up: its last release, or a reset or load, came after its last press, or it was never pressed
abbrev pub AreUp : List ℕ → Type 0
AreUp numbers = (k : ℕ) → k < key_count → is_down k numbers ≡ false

-- the key bears the modifier or lock throughout: kmap_bearer tells this key, and KMAP_BORNE_THROUGHOUT
abbrev pub IsBorneThroughout : List ℕ → ℕ → Holding → Type 0
IsBorneThroughout tables k a = (m : MapValue) → IsMap m → tables ≡ image m → BearsThroughout m k a

-- the tables are the same, or no load was delivered
abbrev pub LoadsNoOther : List ℕ → List ℕ → List ℕ → Type 0
LoadsNoOther first second numbers = (second ≡ first) ⊎ All (λ n. n ≤ 256) numbers

-- how many presses of the key were no repeats
abbrev pub fresh_presses : ℕ → List ℕ → ℕ
fresh_presses k [] = 0
fresh_presses k (n ∷ before) =
    if (n == k) && not (is_down k before) then suc (fresh_presses k before) else fresh_presses k before
