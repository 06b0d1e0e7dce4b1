-- The cells of a key in their order, as a computation: what is first among them.
use Rattle.std.specs.Prelude.{ℕ, ◌+◌, ◌-◌, ◌*◌, nat_lt, Bool, false, true, not, Option, if◌then◌else◌}
use Rattle.keymap_check.specs.Types.{Modifier, Holding, Cell, Char, Act, Group, Kind, Place}
use Rattle.keymap_core.specs.declared.action.Modifier.TheVariants as modifier
use Rattle.keymap_core.specs.declared.action.Action.TheVariants as act
use Rattle.keymap_core.specs.Actions.{same_action, holding_action}
use Rattle.keymap_core.specs.Maps.{MapValue, cell_at}
use Rattle.keymap_core.specs.Below.{first_below}
use Rattle.keymap_check.specs.declared.kind.Group.TheVariants as group
use Rattle.keymap_check.specs.declared.kind.Kind.TheVariants as kind
use Rattle.keymap_core.specs.Borne.{is_upper_live}
use Rattle.keymap_core.specs.Numbers.{key_count, column_count}

abbrev pub is_of_group : Group → Modifier → Bool
is_of_group group.Shift modifier.LeftShift = true
is_of_group group.Shift modifier.RightShift = true
is_of_group group.Control modifier.LeftControl = true
is_of_group group.Control modifier.RightControl = true
is_of_group group.Alt modifier.LeftAlt = true
is_of_group group.Alt modifier.RightAlt = true
is_of_group group.AltShift modifier.AltShift = true
is_of_group _ _ = false

abbrev pub is_character : Cell → Bool
is_character (Char c) = true
is_character (Act a) = false

abbrev pub is_any_holding : Cell → Bool
is_any_holding (Act (act.Mod i)) = true
is_any_holding (Act (act.Lock l)) = true
is_any_holding _ = false

abbrev pub is_holding : Holding → Cell → Bool
is_holding a (Char c) = false
is_holding a (Act b) = same_action b (holding_action a)

-- a character or nop
abbrev pub is_character_or_nop : Cell → Bool
is_character_or_nop (Char c) = true
is_character_or_nop (Act act.Nop) = true
is_character_or_nop (Act _) = false

abbrev pub is_group_cell : Group → Cell → Bool
is_group_cell g (Act (act.Mod i)) = is_of_group g i
is_group_cell g _ = false

abbrev pub is_of_kind : Kind → Cell → Bool
is_of_kind kind.Character x = is_character x
is_of_kind kind.AnyHolding x = is_any_holding x
is_of_kind (kind.Holding a) x = is_holding a x
is_of_kind (kind.OtherThan a) x = not (is_holding a x)
is_of_kind kind.CharacterOrNop x = is_character_or_nop x
is_of_kind (kind.Of g) x = is_group_cell g x

unfoldable pub place_count : MapValue → ℕ
place_count m = if is_upper_live m then 2 * column_count else column_count

abbrev pub slot_at : ℕ → ℕ → ℕ
slot_at k place = if nat_lt place column_count then k else k + key_count

abbrev pub column_at : ℕ → ℕ
column_at place = if nat_lt place column_count then place else place - column_count

abbrev pub cell_of : MapValue → ℕ → ℕ → Cell
cell_of m k place = cell_at m (slot_at k place) (column_at place)

-- the first place of the key that has a cell of the kind
unfoldable pub first_place : MapValue → Kind → ℕ → Option ℕ
first_place m x k = first_below (λ place. is_of_kind x (cell_of m k place)) (place_count m)

abbrev pub place_at : ℕ → ℕ → Place
place_at k place = record { slot = slot_at k place; column = column_at place }
