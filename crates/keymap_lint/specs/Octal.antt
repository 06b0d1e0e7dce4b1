-- Which characters of a text look octal and are decimal.
use Rattle.std.specs.Prelude.{ℕ, ◌+◌, ◌*◌, ◌/◌, ◌%◌, ◌==◌, Bool, ◌&&◌, not, nat_lt, nat_le, if◌then◌else◌, List, []}
use Rattle.std.specs.Prelude.{◌++◌, length, slice_index, slice_index_or, Option, Some, None}
use Rattle.std.specs.List.{flat_map, list_all}
use Rattle.std.specs.Option.{option_to_list}
use Rattle.keymap_core.specs.Accents.{AccentValue}
use Rattle.keymap_core.specs.Actions.{within}
use Rattle.keymap_core.specs.Below.{gathered}
use Rattle.keymap_core.specs.Maps.{accent_at}
use Rattle.keymap_core.specs.Numbers.{accent_limit}
use Rattle.keymap_places.specs.Placed.{last_of}
use Rattle.keymap_lint.specs.Types.{Cell, Char, Act, Span, Accent, Placed, CellInForce, Diagnostic}
use Rattle.keymap_lint.specs.declared.diagnostic.Kind.TheVariants as kinds
use Rattle.keymap_lint.specs.Kinds.{at, base_at}
use Rattle.keymap_lint.specs.Spelled.{Spelled, bytes_at, content, span_at}

-- two or more decimal digits, the first of which is 0
abbrev pub is_digit : ℕ → Bool
is_digit c = within 48 57 c

abbrev pub looks_octal : List ℕ → Bool
looks_octal bytes = nat_le 2 (length bytes) && (slice_index bytes 0 == 48 && list_all is_digit bytes)

-- the decimal digits of a number that is a character, which has seven at most, from the last one on
abbrev pub digit : ℕ → ℕ → ℕ
digit n unit = n / unit % 10

abbrev pub is_octal : ℕ → Bool
is_octal n =
    nat_lt (digit n 1) 8 && nat_lt (digit n 10) 8 && nat_lt (digit n 100) 8 && nat_lt (digit n 1000) 8
    && nat_lt (digit n 10000) 8 && nat_lt (digit n 100000) 8 && nat_lt (digit n 1000000) 8

-- the number that they are as octal ones
abbrev pub octal_number : ℕ → ℕ
octal_number n =
    digit n 1 + 8 * digit n 10 + 64 * digit n 100 + 512 * digit n 1000 + 4096 * digit n 10000
    + 32768 * digit n 100000 + 262144 * digit n 1000000

-- where they may be octal ones, and are another number then
abbrev pub octal_of : ℕ → Option ℕ
octal_of n = if is_octal n && not (octal_number n == n) then Some (octal_number n) else None

-- OCTAL LIKE: a character that is spelled so
abbrev pub octal_at : Spelled → Span → ℕ → List Diagnostic
octal_at t s c =
    option_to_list (if looks_octal (bytes_at t.text s) then Some (at s.start (kinds.OctalLike c s.start (octal_of c)))
    else None)

abbrev pub octal_by : Spelled → CellInForce → Cell → List Diagnostic
octal_by t c (Char n) = octal_at t c.span n
octal_by t c (Act a) = []

abbrev pub octal_cell : Spelled → CellInForce → List Diagnostic
octal_cell t c = octal_by t c (content t c)

-- the base and the result of a pair stand behind its parenthesis
abbrev pub result_at : List (ℕ × ℕ) → ℕ → ℕ
result_at pairs j = (slice_index_or pairs j (0, 0)).1

abbrev pub octal_pair : Spelled → ℕ → List (ℕ × ℕ) → ℕ → List Diagnostic
octal_pair t first pairs j =
    octal_at t (span_at t.spans (first + (4 * j + 3))) (base_at pairs j)
    ++ octal_at t (span_at t.spans (first + (4 * j + 4))) (result_at pairs j)

-- the accent's own character stands behind its name
abbrev pub octal_own : Spelled → ℕ → AccentValue → List Diagnostic
octal_own t first a = octal_at t (span_at t.spans (first + 1)) a.own

abbrev pub octal_defined : Spelled → ℕ → AccentValue → List Diagnostic
octal_defined t first a = octal_own t first a ++ gathered (octal_pair t first a.pairs) (length a.pairs)

abbrev pub octal_in : Spelled → Option Placed → Option AccentValue → List Diagnostic
octal_in t (Some p) (Some a) = octal_defined t p.first a
octal_in t _ _ = []

abbrev pub octal_accent : Spelled → ℕ → List Diagnostic
octal_accent t i = octal_in t (last_of (Accent i) t.definitions) (accent_at t.map i)

abbrev pub all_octal : Spelled → List CellInForce → List Diagnostic
all_octal t cells = flat_map (octal_cell t) cells ++ gathered (octal_accent t) accent_limit
