-- What tokens lead to. Mirrors `wanted_behind` of src/wanted.rt.
use Rattle.std.specs.Prelude.{◌≡◌, ◌<◌, Option, Some, None, Result, Ok, IsErr}
use Rattle.keymap_core.specs.Numbers.{column_count, pair_limit}
use Rattle.keymap_text.specs.Places.{RowPlace}
use Rattle.keymap_places.specs.Types.{TextFaultKind}
use Rattle.keymap_places.specs.declared.wanted.Wanted.{Wanted}
use Rattle.keymap_places.specs.declared.wanted.Wanted.TheVariants as wants
use Rattle.keymap_places.specs.Wanted.{row_place}

-- a place that there is, by the cells or the pairs before it
abbrev pub IsPlace : Wanted → Type 0
IsPlace (wants.Cell n) = n < column_count
IsPlace (wants.Base n) = n < pair_limit
IsPlace (wants.Composed n) = n < pair_limit
IsPlace (wants.PairEnd n) = n < pair_limit
IsPlace _ = Unit {0}

-- What is wanted behind a token is the place to which it leads; none where it is refused.
abbrev pub LeadsTo : Option Wanted → Result RowPlace TextFaultKind → Type 0
LeadsTo (Some w) r = r ≡ Ok (row_place w)
LeadsTo None r = IsErr r
