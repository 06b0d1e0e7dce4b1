-- Which keys may bear a modifier or lock. Mirrors src/bearing.rt.
use Rattle.std.specs.Prelude.{◌≡◌, ◌+◌, ◌<◌, ℕ, Bool, false, List, length, slice_index_or}
use Rattle.keymap_core.specs.Actions.{holding_action}
use Rattle.keymap_core.specs.Bearers.{StandsIn}
use Rattle.keymap_core.specs.Borne.{is_upper_live}
use Rattle.keymap_core.specs.Maps.{MapValue}
use Rattle.keymap_core.specs.Numbers.{key_count}
use Rattle.keymap_core.specs.declared.action.Holding.{Holding}
use Rattle.keymap_core.specs.declared.entry.Cell.{Cell}
use Rattle.keymap_core.specs.declared.entry.Cell.TheVariants.{Act}
use Rattle.keymap_consequences.specs.declared.bearing.Keys.{Keys}

abbrev pub HasNoHolding : Cell → Type 0
HasNoHolding x = (a : Holding) → x ≡ Act (holding_action a) → ⊥

-- no cell of the slot is a modifier or lock
abbrev pub SlotBearsNothing : MapValue → ℕ → Type 0
SlotBearsNothing m slot = (a : Holding) → StandsIn m slot (Act (holding_action a)) → ⊥

-- no cell of the key, in either half
abbrev pub BearsNothing : MapValue → ℕ → Type 0
BearsNothing m k = SlotBearsNothing m k × SlotBearsNothing m (k + key_count)

-- each key of which the table says so bears nothing
abbrev pub AreQuiet : MapValue → ℕ → List Bool → Type 0
AreQuiet m n marks = (k : ℕ) → k < n → slice_index_or marks k false ≡ false → BearsNothing m k

pub record IsKeys (m : MapValue) (x : Keys) : Type 0 where
  pub map : x.map.now ≡ m
  pub live : x.is_upper_live ≡ is_upper_live m
  pub quiet : AreQuiet m key_count x.may_bear
  pub size : length x.may_bear ≡ key_count
