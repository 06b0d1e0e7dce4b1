-- The pairs that are told of, as they are listed: of each accent that of the blank, and then those of the bases.
-- Mirrors src/told.rt.
use Rattle.std.specs.Prelude.{ℕ, ◌==◌, List, [], ◌∷◌, map, length, Option, None, Some, if◌then◌else◌}
use Rattle.std.specs.List.{flat_map, range_with_len}
use Rattle.keymap_core.specs.Accents.{AccentValue}
use Rattle.keymap_core.specs.Maps.{MapValue, accent_at}
use Rattle.console_states.specs.declared.selection.Sight.{Sight}
use Rattle.console_states.specs.declared.selection.Sight.TheVariants as sight

abbrev pub base_pair : ℕ → ℕ × ℕ → Sight
base_pair i p = sight.Pair i p.0

abbrev pub pairs_of : ℕ → Option AccentValue → List Sight
pairs_of i None = []
pairs_of i (Some a) = if a.own == 0 then [] else sight.Pair i 32 ∷ map (base_pair i) a.pairs

abbrev pub pairs_at : MapValue → ℕ → List Sight
pairs_at m i = pairs_of i (accent_at m i)

-- the pairs of the accents up to the last defined one
abbrev pub pairs_in : MapValue → List Sight
pairs_in m = flat_map (pairs_at m) (range_with_len 0 (length m.accents))
