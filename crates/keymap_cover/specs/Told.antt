-- Which sights are told of: the cells and lock settings of all slots, and the pairs of usable accents.
use Rattle.std.specs.Prelude.{◌≡◌, ◌⊎◌, ℕ, ◌<◌, true, List, Option, None, Some}
use Rattle.std.specs.List.{Contains}
use Rattle.keymap_core.specs.Accents.{AccentValue}
use Rattle.keymap_core.specs.Maps.{MapValue, accent_at}
use Rattle.keymap_core.specs.Numbers.{slot_limit, column_count}
use Rattle.console_states.specs.declared.selection.Sight.{Sight}
use Rattle.console_states.specs.declared.selection.Sight.TheVariants as sight
use Rattle.console_core.specs.Answers.{usable}

-- the base of one of the accent's pairs
abbrev pub IsBaseOf : Option AccentValue → ℕ → Type 0
IsBaseOf None c = ⊥
IsBaseOf (Some a) c = (p : ℕ × ℕ) × Contains a.pairs p × (p.0 ≡ c)

-- A pair is told of where its accent is usable, and its character is the blank or the base of one of the accent's
-- pairs.
abbrev pub IsTold : MapValue → Sight → Type 0
IsTold m (sight.Cell slot column) = (slot < slot_limit) × (column < column_count)
IsTold m (sight.Locks slot caps num) = slot < slot_limit
IsTold m (sight.Pair accent c) = (usable m accent ≡ true) × ((c ≡ 32) ⊎ IsBaseOf (accent_at m accent) c)

-- a list of all that is told of, and of nothing else
abbrev pub AreTold : MapValue → List Sight → Type 0
AreTold m xs = (x : Sight) → (IsTold m x → Contains xs x) × (Contains xs x → IsTold m x)
