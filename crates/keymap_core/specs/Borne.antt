-- Which holding actions some key of a map bears, as tests that compute. Laws say that they tell what Bearers states.
use Prim.Native.Nat.{zero, suc}
use Rattle.std.specs.Prelude.{ℕ, ◌+◌, Bool, false, ◌&&◌, ◌||◌}
use Rattle.keymap_core.specs.declared.action.Modifier.TheVariants as modifier
use Rattle.keymap_core.specs.declared.action.Lock.TheVariants as lock
use Rattle.keymap_core.specs.declared.action.Action.{Action}
use Rattle.keymap_core.specs.declared.action.Action.TheVariants as act
use Rattle.keymap_core.specs.declared.action.Holding.{Holding}
use Rattle.keymap_core.specs.declared.entry.Cell.{Cell}
use Rattle.keymap_core.specs.declared.entry.Cell.TheVariants.{Char, Act}
use Rattle.keymap_core.specs.Actions.{same_action, holding_action}
use Rattle.keymap_core.specs.Maps.{MapValue, cell_at}
use Rattle.keymap_core.specs.Numbers.{key_count, column_count}

-- some number below n passes the test
unfoldable pub any_below : (ℕ → Bool) → ℕ → Bool
any_below test zero = false
any_below test (suc n) = any_below test n || test n

-- the cell is the action
abbrev pub is_cell_of_action : Action → Cell → Bool
is_cell_of_action a (Char c) = false
is_cell_of_action a (Act b) = same_action b a

-- some cell of the slot is the action
unfoldable pub has_in_slot : MapValue → Action → ℕ → Bool
has_in_slot m a slot = any_below (λ column. is_cell_of_action a (cell_at m slot column)) column_count

-- some cell of the 128 slots from `from` on is the action
unfoldable pub has_in_half : MapValue → Action → ℕ → Bool
has_in_half m a from = any_below (λ k. has_in_slot m a (k + from)) key_count

-- the slots 128 to 255 are live
unfoldable pub is_upper_live : MapValue → Bool
is_upper_live m = has_in_half m (act.Mod modifier.AltShift) 0 || has_in_half m (act.Lock lock.Alt) 0

-- some key bears the holding action
unfoldable pub is_borne : MapValue → Holding → Bool
is_borne m a =
    has_in_half m (holding_action a) 0 || (is_upper_live m && has_in_half m (holding_action a) key_count)
