-- The number of a character as people write it.
use Rattle.std.specs.Prelude.{ℕ, ◌/◌, ◌%◌, nat_lt, List, [], ◌∷◌, ◌++◌, codes, if◌then◌else◌}
use Rattle.std.specs.Char.{digit_char}

-- the lower case hexadecimal digit of a unit, which is a power of 16
abbrev pub digit_at : ℕ → ℕ → ℕ
digit_at c unit = digit_char ((c / unit) % 16)

abbrev pub upper_digits : ℕ → List ℕ
upper_digits c =
    if nat_lt c 0x10000 then []
    else if nat_lt c 0x100000 then digit_at c 0x10000 ∷ []
    else digit_at c 0x100000 ∷ digit_at c 0x10000 ∷ []

-- the number of the character in hexadecimal digits, four at least
unfoldable pub code_digits : ℕ → List ℕ
code_digits c = upper_digits c ++ digit_at c 0x1000 ∷ digit_at c 0x100 ∷ digit_at c 0x10 ∷ digit_at c 1 ∷ []

-- U+ and these digits
unfoldable pub code_text : ℕ → List ℕ
code_text c = codes "U+" ++ code_digits c
