-- Keys that can leave a modifier on: one of their cells is the modifier, and another is a character that is looked up
-- while the modifier is on.
use Rattle.std.specs.Prelude.{◌≡◌, ℕ, ◌<◌, Bool, true, List}
use Rattle.console_core.specs.Types.{Modifier, LeftShift, RightShift, LeftControl, RightControl, LeftAlt, RightAlt}
use Rattle.console_core.specs.Types.{AltShift, Meta, Cell, Char, Event}
use Rattle.keymap_core.specs.declared.action.Lock.TheVariants as lock
use Rattle.keymap_core.specs.declared.action.Holding.TheVariants as holding
use Rattle.keymap_core.specs.Maps.{MapValue, cell_at}
use Rattle.keymap_core.specs.Bearers.{Bears, IsUpperLive, NobodyBears}
use Rattle.keymap_core.specs.Numbers.{key_count}
use Rattle.console_core.specs.Columns.{slot_of, column_of}
use Rattle.console_core.specs.History.{Maps, in_force, is_on_after, pressed, HasKeys}

-- the bits of a cell: whether it is in the upper half, and which of shift, control and alt its column stands for
pub record Bits : Type 0 where
  pub upper : Bool
  pub shift : Bool
  pub control : Bool
  pub alt : Bool

abbrev pub cell_with : MapValue → ℕ → Bits → Cell
cell_with m k bits = cell_at m (slot_of k bits.upper) (column_of bits.shift bits.control bits.alt)

-- the bit of the modifier's group; meta has none, and any bits will do
abbrev pub group_bit : Modifier → Bits → Bool
group_bit LeftShift bits = bits.shift
group_bit RightShift bits = bits.shift
group_bit LeftControl bits = bits.control
group_bit RightControl bits = bits.control
group_bit LeftAlt bits = bits.alt
group_bit RightAlt bits = bits.alt
group_bit AltShift bits = bits.upper
group_bit Meta bits = true

-- the modifier is a cell of the key, and so is some character among those that the modifier's own group leads to
abbrev pub HasTrap : MapValue → Modifier → ℕ → Type 0
HasTrap m i k =
    Bears m k (holding.Mod i)
    × ((bits : Bits) × (c : ℕ) × (bits.upper ≡ true → IsUpperLive m) × (group_bit i bits ≡ true)
    × (cell_with m k bits ≡ Char c))

abbrev pub HasNoTrap : MapValue → Modifier → Type 0
HasNoTrap m i = (k : ℕ) → k < key_count → HasTrap m i k → ⊥

-- nobody bears a lock that picks a cell
abbrev pub NobodyBearsCellPickingLocks : MapValue → Type 0
NobodyBearsCellPickingLocks m =
    NobodyBears m (holding.Lock lock.Caps) × NobodyBears m (holding.Lock lock.Num)
    × NobodyBears m (holding.Lock lock.Alt)

-- without those locks and without a trap for it, a modifier is on only while a key that bears it is pressed, also in a
-- map that isn't safe
abbrev pub IsOnOnlyWhilePressedWithoutTraps : MapValue → List Event → (Modifier → Bool) → Type 0
IsOnOnlyWhilePressedWithoutTraps m h is_on =
    NobodyBearsCellPickingLocks m → (i : Modifier) → HasNoTrap m i → is_on i ≡ true
    → (k : ℕ) × (k < key_count) × Bears m k (holding.Mod i) × (pressed k h ≡ true)

abbrev pub OnOnlyWhilePressedWithoutTraps : Type 0
OnOnlyWhilePressedWithoutTraps =
    (ms : Maps) (h : List Event) → HasKeys h
    → IsOnOnlyWhilePressedWithoutTraps (in_force ms h) h (λ i. is_on_after ms i h)
