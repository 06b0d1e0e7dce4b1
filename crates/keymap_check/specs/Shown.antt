-- Traps that a demonstration shows.
use Rattle.std.specs.Prelude.{◌≡◌, ◌≢◌, ℕ, ◌<◌, true, false, All, List, Option, None, Some}
use Rattle.keymap_core.specs.declared.action.Action.{Action}
use Rattle.keymap_core.specs.declared.action.Action.TheVariants as act
use Rattle.keymap_check.specs.Types.{Modifier, LeftShift, RightShift, LeftControl, RightControl, LeftAlt, RightAlt}
use Rattle.keymap_check.specs.Types.{AltShift, Meta, Cell, Char, Act, Event, Press, Release, Group}
use Rattle.keymap_core.specs.Maps.{MapValue, cell_at}
use Rattle.keymap_core.specs.Bearers.{IsCellOf, IsUpperLive}
use Rattle.keymap_core.specs.Numbers.{key_count}
use Rattle.console_core.specs.History.{between, HasKeys, IsQuiet, is_any_on_after}
use Rattle.console_core.specs.Traps.{Bits, cell_with}
use Rattle.keymap_check.specs.declared.kind.Group.TheVariants as group
use Rattle.keymap_check.specs.Scripts.{bit_key}

-- the group of the modifier; meta has none
abbrev pub group_of : Modifier → Option Group
group_of LeftShift = Some group.Shift
group_of RightShift = Some group.Shift
group_of LeftControl = Some group.Control
group_of RightControl = Some group.Control
group_of LeftAlt = Some group.Alt
group_of RightAlt = Some group.Alt
group_of AltShift = Some group.AltShift
group_of Meta = None

-- the group's place among the bits of a set
abbrev pub bit_of_group : Group → ℕ
bit_of_group group.Shift = 0
bit_of_group group.Control = 1
bit_of_group group.Alt = 2
bit_of_group group.AltShift = 3

abbrev pub no_bits : Bits
no_bits = record { upper = false; shift = false; control = false; alt = false }

-- the bits, with that of the group
abbrev pub with_bit : Option Group → Bits → Bits
with_bit None bits = bits
with_bit (Some group.Shift) bits = record bits { shift = true }
with_bit (Some group.Control) bits = record bits { control = true }
with_bit (Some group.Alt) bits = record bits { alt = true }
with_bit (Some group.AltShift) bits = record bits { upper = true }

-- the bit of the modifier's group, and a further one where there is one
abbrev pub bits_with : Modifier → Option Group → Bits
bits_with i further = with_bit further (with_bit (group_of i) no_bits)

-- the key has a character in its cell with these bits
abbrev pub HasCharacterWith : MapValue → ℕ → Bits → Type 0
HasCharacterWith m k bits = (bits.upper ≡ true → IsUpperLive m) × ((c : ℕ) × (cell_with m k bits ≡ Char c))

-- all cells of the key are one action
abbrev pub IsOneAction : MapValue → ℕ → Type 0
IsOneAction m j = (a : Action) × ((x : Cell) → IsCellOf m j x → x ≡ Act a)

-- where there is a further bit, it isn't that of the modifier's group, and its key exists and is one action
abbrev pub HasFurtherKey : MapValue → ℕ → Modifier → Option Group → Type 0
HasFurtherKey m k i None = Unit {0}
HasFurtherKey m k i (Some g) = (group_of i ≢ Some g)
    × ((j : ℕ) × (bit_key m k (bit_of_group g) ≡ Some j) × IsOneAction m j)

-- column 0 of the key's slot is the modifier, and a character cell has the bit of its group and at most one bit more
abbrev pub HasShownTrap : MapValue → Modifier → ℕ → Type 0
HasShownTrap m i k =
    (k < key_count) × (cell_at m k 0 ≡ Act (act.Mod i))
    × ((further : Option Group) × HasCharacterWith m k (bits_with i further) × HasFurtherKey m k i further)

-- a press or a release
abbrev pub IsPressOrRelease : Event → Type 0
IsPressOrRelease (Press k) = Unit {0}
IsPressOrRelease (Release k) = Unit {0}
IsPressOrRelease _ = ⊥

-- Presses and releases of keys, newest first, after which no key is pressed and some modifier is on.
abbrev pub LeavesModifierOn : MapValue → List Event → Type 0
LeavesModifierOn m h =
    HasKeys h × All IsPressOrRelease h × IsQuiet h × (is_any_on_after (between m m) h ≡ true)
