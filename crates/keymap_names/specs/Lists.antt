-- The names of accents and columns, lists of accents, and ascending numbers as ranges.
use Rattle.std.specs.Prelude.{ℕ, ◌+◌, ◌-◌, ◌==◌, Bool, ◌||◌, not, if◌then◌else◌, List, [], ◌∷◌, ◌++◌, codes, decimal}
use Rattle.std.specs.Prelude.{length}
use Rattle.std.specs.Prelude.{slice_index, slice_index_or}
use Rattle.std.specs.List.{flat_map, range_with_len}
use Rattle.keymap_core.specs.Actions.{accent_names}

-- the first of a list's numbers, or one that isn't the number before it and one more
abbrev pub begins_run : List ℕ → ℕ → Bool
begins_run ns i = i == 0 || not (slice_index ns i == slice_index ns (i - 1) + 1)

-- the last of a list's numbers, or one to which the number behind it doesn't add one
abbrev pub ends_run : List ℕ → ℕ → Bool
ends_run ns i = i + 1 == length ns || not (slice_index ns (i + 1) == slice_index ns i + 1)

abbrev pub comma : ℕ → List ℕ
comma i = if i == 0 then [] else codes ", "

-- what is told of the number at a place: the first of each run, and the last one where it is another
abbrev pub run_text : List ℕ → ℕ → List ℕ
run_text ns i =
    if begins_run ns i then comma i ++ decimal (slice_index ns i)
    else if ends_run ns i then codes " to " ++ decimal (slice_index ns i)
    else []

-- ascending numbers, as `129 to 212, 254`
abbrev pub ranges : List ℕ → List ℕ
ranges ns = flat_map (run_text ns) (range_with_len 0 (length ns))

-- what stands before the element at a place of a list of n
abbrev pub or_comma : ℕ → ℕ → List ℕ
or_comma i n = if i == 0 then [] else if i + 1 == n then codes " or " else codes ", "

abbrev pub accent_name : ℕ → List ℕ
accent_name accent = slice_index_or accent_names accent []

-- what is told of the accent at a place
abbrev pub listed_text : List ℕ → ℕ → List ℕ
listed_text accents i = or_comma i (length accents) ++ accent_name (slice_index accents i)

-- the names of accents, as `dgra, dacu or dcir`
abbrev pub accents_text : List ℕ → List ℕ
accents_text accents = flat_map (listed_text accents) (range_with_len 0 (length accents))

-- the columns, by what selects each
abbrev pub column_names : List (List ℕ)
column_names =
    codes "base" ∷ codes "shift" ∷ codes "ctrl" ∷ codes "ctrl shift" ∷ codes "alt" ∷ codes "alt shift"
    ∷ codes "alt ctrl" ∷ codes "alt ctrl shift" ∷ []
