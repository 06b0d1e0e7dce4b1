-- The sights that are told of, in the order in which they are told.
use Rattle.std.specs.Prelude.{ℕ, ◌+◌, ◌*◌, ◌/◌, ◌%◌, ◌==◌, Bool, List, map}
use Rattle.std.specs.List.{range_with_len}
use Rattle.console_core.specs.Columns.{bit}
use Rattle.console_states.specs.declared.selection.Sight.{Sight}
use Rattle.console_states.specs.declared.selection.Sight.TheVariants as sight

-- the cell at a place among all: eight in each slot, by column
abbrev pub cell_at_place : ℕ → Sight
cell_at_place n = sight.Cell (n / 8) (n % 8)

-- the place of a cell
abbrev pub cell_place : ℕ → ℕ → ℕ
cell_place slot column = slot * 8 + column

unfoldable pub all_cells : List Sight
all_cells = map cell_at_place (range_with_len 0 2048)

-- the lock setting at a place among all: in each slot none is on, nlock, clock, and both
abbrev pub lock_setting_at_place : ℕ → Sight
lock_setting_at_place n = sight.Locks (n / 4) (n / 2 % 2 == 1) (n % 2 == 1)

-- the place of a lock setting
abbrev pub lock_setting_place : ℕ → Bool → Bool → ℕ
lock_setting_place slot caps num = slot * 4 + bit caps * 2 + bit num

unfoldable pub all_lock_settings : List Sight
all_lock_settings = map lock_setting_at_place (range_with_len 0 1024)
