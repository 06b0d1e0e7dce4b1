-- Which slots are live, which cells a key has, and which keys bear which holding actions. Keys are 0 to 127, and the
-- slots of key k are k and, where the upper half is live, k + 128.
use Rattle.std.specs.Prelude.{◌≡◌, ◌≢◌, ℕ, ◌+◌, ◌<◌, ◌⊎◌}
use Rattle.keymap_core.specs.declared.action.Modifier.TheVariants as modifier
use Rattle.keymap_core.specs.declared.action.Lock.TheVariants as lock
use Rattle.keymap_core.specs.declared.action.Action.TheVariants as act
use Rattle.keymap_core.specs.declared.action.Holding.{Holding}
use Rattle.keymap_core.specs.declared.entry.Cell.{Cell}
use Rattle.keymap_core.specs.declared.entry.Cell.TheVariants.{Act}
use Rattle.keymap_core.specs.Actions.{holding_action}
use Rattle.keymap_core.specs.Maps.{MapValue, cell_at}
use Rattle.keymap_core.specs.Numbers.{key_count, column_count}

-- the cell stands in the slot
abbrev pub StandsIn : MapValue → ℕ → Cell → Type 0
StandsIn m slot x = (column : ℕ) × (column < column_count) × (cell_at m slot column ≡ x)

-- the slots 128 to 255 are live: some cell of the slots 0 to 127 is ashift or alock
abbrev pub IsUpperLive : MapValue → Type 0
IsUpperLive m =
    (slot : ℕ) × (slot < key_count)
    × (StandsIn m slot (Act (act.Mod modifier.AltShift)) ⊎ StandsIn m slot (Act (act.Lock lock.Alt)))

-- the cell is one of the key's
abbrev pub IsCellOf : MapValue → ℕ → Cell → Type 0
IsCellOf m k x = StandsIn m k x ⊎ (IsUpperLive m × StandsIn m (k + key_count) x)

-- a cell of the key is the holding action
abbrev pub Bears : MapValue → ℕ → Holding → Type 0
Bears m k a = IsCellOf m k (Act (holding_action a))

-- no other key bears the action
abbrev pub IsAlone : MapValue → ℕ → Holding → Type 0
IsAlone m k a = (j : ℕ) → j < key_count → Bears m j a → j ≡ k

-- the key alone bears the action, in all its cells
abbrev pub BearsThroughout : MapValue → ℕ → Holding → Type 0
BearsThroughout m k a = (k < key_count) × IsAlone m k a × ((x : Cell) → IsCellOf m k x → x ≡ Act (holding_action a))

-- the key alone bears the action, and has another cell too
abbrev pub BearsNotThroughout : MapValue → ℕ → Holding → Type 0
BearsNotThroughout m k a =
    (k < key_count) × Bears m k a × IsAlone m k a × ((x : Cell) × IsCellOf m k x × (x ≢ Act (holding_action a)))

-- no key bears the action
abbrev pub NobodyBears : MapValue → Holding → Type 0
NobodyBears m a = (k : ℕ) → k < key_count → ¬ (Bears m k a)

-- two keys or more bear the action
abbrev pub SeveralBear : MapValue → Holding → Type 0
SeveralBear m a = (j : ℕ) × (k : ℕ) × (j < key_count) × (k < key_count) × (j ≢ k) × Bears m j a × Bears m k a
