-- The line of a place in a text, and the caret below it, as a diagnostic shows them.
use Rattle.std.specs.Prelude.{ℕ, ◌-◌, ◌==◌, nat_lt, if◌then◌else◌, List, [], ◌∷◌, ◌++◌}
use Rattle.std.specs.Prelude.{codes, length, map, take, drop, slice_index, encode_utf8}
use Rattle.std.specs.List.{flat_map}
use Rattle.keymap_names.specs.Shown.{shown_chars, shown_name}

-- bytes without the CR that they may end with
abbrev pub without_cr : List ℕ → List ℕ
without_cr bytes =
    if slice_index bytes (length bytes - 1) == 13 then take (length bytes - 1) bytes else bytes

-- the bytes of a line before a place, of which only those are shown that don't end the line
abbrev pub shown_before : List ℕ → List ℕ → List ℕ
shown_before before rest = if length rest == 0 then without_cr before else before

-- so many bytes of a line are shown at most before the place, and as many from it on
abbrev pub side : ℕ
side = 120

-- what stands for bytes that are left out, and the blanks below it
abbrev pub dots : ℕ → List ℕ
dots n = if nat_lt 0 n then codes ".." else []

abbrev pub blanks : ℕ → List ℕ
blanks n = if nat_lt 0 n then codes "  " else []

-- the line of these characters and these bytes behind them, where so many bytes before them are left out
abbrev pub shown_line : ℕ → List ℕ → List ℕ → List ℕ
shown_line left cs rest =
    codes "  " ++ dots left ++ flat_map encode_utf8 cs ++ shown_name (take side rest) ++ dots (length rest - side)

-- a tab stands below a tab, and a blank below each other character
abbrev pub below : ℕ → ℕ
below c = if c == 9 then 9 else 32

-- the caret below the place, where these characters stand before it
abbrev pub caret_line : ℕ → List ℕ → List ℕ
caret_line left cs = codes "  " ++ blanks left ++ map below cs ++ codes "^"

abbrev pub lines_of : ℕ → List ℕ → List ℕ → List (List ℕ)
lines_of left cs rest = shown_line left cs rest ∷ caret_line left cs ∷ []

-- by the bytes before the place that are shown
abbrev pub excerpt_of : List ℕ → List ℕ → List (List ℕ)
excerpt_of bytes rest = lines_of (length bytes - side) (shown_chars (drop (length bytes - side) bytes)) rest

-- the line and the caret below it, by the bytes of the line before the place and those from it on
unfoldable pub excerpt : List ℕ → List ℕ → List (List ℕ)
excerpt before rest = excerpt_of (shown_before before rest) (without_cr rest)
