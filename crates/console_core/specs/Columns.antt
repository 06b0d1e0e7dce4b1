-- The cell that a press of a key looks up, by which modifiers and locks are on.
use Rattle.std.specs.Prelude.{ℕ, ◌+◌, ◌*◌, Bool, false, true, ◌&&◌, ◌||◌, not, if◌then◌else◌}
use Rattle.console_core.specs.Types.{Modifier, LeftShift, RightShift, LeftControl, RightControl, LeftAlt, RightAlt}
use Rattle.console_core.specs.Types.{AltShift, Lock, Caps, Num, Alt, Cell}
use Rattle.keymap_core.specs.declared.entry.LockFlag.{LockFlag}
use Rattle.keymap_core.specs.declared.entry.LockFlag.TheVariants as flag
use Rattle.keymap_core.specs.Maps.{MapValue, entry_at, cell_at}
use Rattle.keymap_core.specs.Numbers.{key_count}

abbrev pub bit : Bool → ℕ
bit false = 0
bit true = 1

-- exactly one of the two
abbrev pub exactly_one : Bool → Bool → Bool
exactly_one false b = b
exactly_one true b = not b

-- the flag has C
abbrev pub flips_with_caps : LockFlag → Bool
flips_with_caps flag.O = false
flips_with_caps flag.C = true
flips_with_caps flag.N = false
flips_with_caps flag.B = true

-- the flag has N
abbrev pub flips_with_num : LockFlag → Bool
flips_with_num flag.O = false
flips_with_num flag.C = false
flips_with_num flag.N = true
flips_with_num flag.B = true

-- the shift bit is flipped, once: the flag has C and clock is on, or it has N and nlock is on
abbrev pub flips_shift : LockFlag → Bool → Bool → Bool
flips_shift f caps num = (flips_with_caps f && caps) || (flips_with_num f && num)

-- the slot of a key in the lower or the upper half
abbrev pub slot_of : ℕ → Bool → ℕ
slot_of k upper = if upper then k + key_count else k

abbrev pub column_of : Bool → Bool → Bool → ℕ
column_of shift control alt = bit shift + 2 * bit control + 4 * bit alt

-- the upper half is looked at: exactly one of ashift and alock is on
abbrev pub is_upper : (Modifier → Bool) → (Lock → Bool) → Bool
is_upper is_on is_locked = exactly_one (is_on AltShift) (is_locked Alt)

-- the cell of the key: the left and the right one of shift, control and alt count as one
abbrev pub look_with : MapValue → (Modifier → Bool) → (Lock → Bool) → ℕ → Cell
look_with m is_on is_locked k =
    let slot = slot_of k (is_upper is_on is_locked) in
    let shift =
    exactly_one (is_on LeftShift || is_on RightShift)
    (flips_shift (entry_at m slot).flag (is_locked Caps) (is_locked Num)) in
    cell_at m slot (column_of shift (is_on LeftControl || is_on RightControl) (is_on LeftAlt || is_on RightAlt))
