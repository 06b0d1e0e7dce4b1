-- What keys type for sure: what stands where one key looks while another one is held. Mirrors src/typed.rt.
use Rattle.std.specs.Prelude.{◌≡◌, ℕ, ◌<◌, Bool, true, false, ◌&&◌, not, ◌⊎◌, List, Some, slice_index_or}
use Rattle.std.specs.BTreeSet.{BTreeSet, contains}
use Rattle.std.specs.Ordering.{nat_cmp}
use Rattle.keymap_core.specs.declared.action.Action.TheVariants as act
use Rattle.keymap_core.specs.declared.action.Modifier.{Modifier}
use Rattle.keymap_core.specs.declared.action.Modifier.TheVariants.{Meta}
use Rattle.keymap_core.specs.Accents.{own_of}
use Rattle.keymap_core.specs.Below.{passed}
use Rattle.keymap_core.specs.Maps.{MapValue, accent_at, cell_at}
use Rattle.keymap_core.specs.Numbers.{key_count}
use Rattle.console_core.specs.Answers.{usable}
use Rattle.console_states.specs.Moves.{State, alone, is_held, look_in, start, with_holder}
use Rattle.console_scripts.specs.declared.explored.Symbol.{Symbol}
use Rattle.console_scripts.specs.Typing.{CanTap, CanType, cell_of}
use Rattle.keymap_lint.specs.Types.{Cell, Char, Act}
use Rattle.keymap_lint.specs.Typed.{is_seen}
use Rattle.keymap_lint.specs.declared.typed.Way.{Way}

-- the cell is the character, or the dead key of a usable accent whose own character it is
abbrev pub IsTypedBy : MapValue → Cell → ℕ → Type 0
IsTypedBy m x c =
    (x ≡ Char c)
    ⊎ ((i : ℕ) × (x ≡ Act (act.DeadKey i)) × (usable m i ≡ true) × (own_of (accent_at m i) ≡ Some c))

-- each key beside the held one can be tapped for what stands in the column
abbrev pub IsWay : MapValue → Way → Type 0
IsWay m w =
    (k : ℕ) (x : Symbol) (plain : Bool) → k < key_count → (w.holder ≡ Some k → ⊥)
    → cell_at m k w.column ≡ cell_of x → CanTap m plain x

abbrev pub held_by : Modifier → ℕ → State
held_by i h = with_holder start i (Some h)

-- The modifier alone selects the column, and isn't meta.
pub record Selects (i : Modifier) (column : ℕ) : Type 0 where
  pub looks : (m : MapValue) (h k : ℕ) → look_in (alone m) (held_by i h) k ≡ cell_at m k column
  pub holds : (h : ℕ) → (held_by i h).holder i ≡ Some h
  pub plain : (h : ℕ) → is_held (held_by i h) Meta ≡ false

-- keys type what is marked
abbrev pub AreSure : MapValue → List Bool → Type 0
AreSure m sure = (c : ℕ) → slice_index_or sure c false ≡ true → CanType m c

-- the character, if it is looked for and not in the set
abbrev pub untyped_character : BTreeSet ℕ → ℕ → List ℕ
untyped_character set c = passed (is_seen c && not (contains nat_cmp set c)) c
