-- The keys that have a cell of a kind. Mirrors src/key_lists.rt.
use Rattle.std.specs.Prelude.{◌≢◌, ◌<◌, ◌⊎◌, ℕ, List}
use Rattle.std.specs.List.{Contains}
use Rattle.keymap_core.specs.declared.action.Action.TheVariants as act
use Rattle.console_states.specs.Types.{Act, Cell}
use Rattle.console_states.specs.Moves.{Under, State, look_in}
use Rattle.console_states.specs.Searching.{IsUnmoving}
use Rattle.console_states.specs.declared.key_lists.CellKind.{CellKind}
use Rattle.console_states.specs.declared.key_lists.CellKind.TheVariants.{Moving, DeadKey}

-- the cell is not of the kind
abbrev pub IsOther : CellKind → Cell → Type 0
IsOther (Moving minded) x = IsUnmoving minded x
IsOther DeadKey x = (i : ℕ) → x ≢ Act (act.DeadKey i)

-- each key below the number that looks up a cell of the kind in some state is among these
abbrev pub HasKeysOf : CellKind → Under → List ℕ → ℕ → Type 0
HasKeysOf kind u keys n = (k : ℕ) → k < n → Contains keys k ⊎ ((s : State) → IsOther kind (look_in u s k))

-- and all these are below it
abbrev pub AreKeysOf : CellKind → Under → List ℕ → ℕ → Type 0
AreKeysOf kind u keys n = HasKeysOf kind u keys n × ((k : ℕ) → Contains keys k → k < n)
