-- The maps that there are: the bounds of their lists, and what stands in them.
use Rattle.std.specs.Prelude.{◌≡◌, ◌≢◌, ℕ, ◌≤◌, length, All}
use Rattle.std.specs.Char.{IsScalar}
use Rattle.keymap_core.specs.Accents.{AccentValue}
use Rattle.keymap_core.specs.Actions.{IsAction}
use Rattle.keymap_core.specs.Maps.{MapValue}
use Rattle.keymap_core.specs.Numbers.{slot_limit, column_count, accent_limit, pair_limit}
use Rattle.keymap_core.specs.declared.entry.Cell.{Cell}
use Rattle.keymap_core.specs.declared.entry.Cell.TheVariants.{Char, Act}
use Rattle.keymap_core.specs.declared.entry.Entry.{Entry}

-- a character is a scalar value, an action one of the table of actions
abbrev pub IsCell : Cell → Type 0
IsCell (Char c) = IsScalar c
IsCell (Act a) = IsAction a

pub record IsEntry (entry : Entry) : Type 0 where
  pub eight : length entry.cells ≡ column_count
  pub cells : All IsCell entry.cells

-- characters, the base not 0
abbrev pub IsPair : ℕ × ℕ → Type 0
IsPair pair = IsScalar pair.0 × (pair.0 ≢ 0) × IsScalar pair.1

pub record IsAccent (accent : AccentValue) : Type 0 where
  pub own : IsScalar accent.own
  pub few : length accent.pairs ≤ pair_limit
  pub pairs : All IsPair accent.pairs

pub record IsMap (m : MapValue) : Type 0 where
  pub few_entries : length m.entries ≤ slot_limit
  pub entries : All IsEntry m.entries
  pub few_accents : length m.accents ≤ accent_limit
  pub accents : All IsAccent m.accents
