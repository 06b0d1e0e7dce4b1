-- Texts with references where markup needs them.
use Rattle.std.specs.Prelude.{ℕ, ◌==◌, nat_lt, Bool, ◌||◌, List, [], ◌∷◌, ◌++◌, codes, if◌then◌else◌}
use Rattle.keymap_core.specs.CodePoints.{code_digits}

-- the characters that are written as references: those of markup, and what isn't ASCII
abbrev pub is_referred : ℕ → Bool
is_referred c = (c == 38) || (c == 60) || (c == 62) || nat_lt 126 c

abbrev pub reference : ℕ → List ℕ
reference c = codes "&#x" ++ code_digits c ++ codes ";"

unfoldable pub escaped : ℕ → List ℕ
escaped c = if is_referred c then reference c else c ∷ []
