-- Where the parts of a script begin.
use Rattle.std.specs.Prelude.{ℕ, nat_lt, List, [], ◌∷◌, ◌++◌, if◌then◌else◌}
use Rattle.keymap_cover.specs.declared.parts.Part.{Part}
use Rattle.keymap_cover.specs.declared.parts.Part.TheVariants.{Cells, Pairs, Trials, OneWay}
use Rattle.keymap_cover.specs.declared.parts.Start.{Start}

-- A part begins before its first event and ends where the next one begins, or behind the last event. A part without
-- events has no beginning.
abbrev pub part_between : Part → ℕ → ℕ → List Start
part_between part at end = if nat_lt at end then record { part = part; at = at } ∷ [] else []

-- the parts of n events, of which the first three end behind so many
abbrev pub starts_at : ℕ → ℕ → ℕ → ℕ → List Start
starts_at first second third n =
    part_between Cells 0 first ++ part_between Pairs first second ++ part_between Trials second third
    ++ part_between OneWay third n
