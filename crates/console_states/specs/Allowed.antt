-- Which presses are made, by the key, what it looks up, and what picks that.
use Rattle.std.specs.Prelude.{ℕ, Bool, true, false, ◌&&◌, not, slice_index_or, Option, None, Some}
use Rattle.std.specs.Borrow.{Bor}
use Rattle.keymap_core.specs.Actions.{code_of}
use Rattle.console_states.specs.Types.{Selection, Cell, Char, Act}
use Rattle.console_states.specs.declared.allowed.KeyPresses.{KeyPresses}
use Rattle.console_states.specs.declared.allowed.KeyPresses.TheVariants.{Always, WithoutControl, WithoutAlt, Never}
use Rattle.console_states.specs.declared.allowed.Presses.{Presses}

-- which presses are allowed: of a key that looks up the cell under the selection
abbrev pub Allows : Type 0
Allows = Selection → ℕ → Cell → Bool

abbrev pub all_allowed : Allows
all_allowed y k x = true

-- whether a key that is pressed so is pressed under the selection
abbrev pub is_key_pressed : KeyPresses → Selection → Bool
is_key_pressed Always y = true
is_key_pressed WithoutControl y = not y.control
is_key_pressed WithoutAlt y = not y.alt
is_key_pressed Never y = false

-- whether what the key looks up is pressed
abbrev pub is_cell_pressed : Presses → Cell → Bool
is_cell_pressed p (Char c) = true
is_cell_pressed p (Act a) = slice_index_or p.actions (code_of a) false

abbrev pub is_pressed : Presses → Allows
is_pressed p y k x = is_cell_pressed p x && is_key_pressed (slice_index_or p.keys k Never) y

-- where no presses are told, all are allowed
abbrev pub allowed_by : Option (Bor Presses) → Allows
allowed_by None = all_allowed
allowed_by (Some p) = is_pressed p.now
