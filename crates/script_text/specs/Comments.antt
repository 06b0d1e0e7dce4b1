-- The comments of a printed script.
use Rattle.std.specs.Prelude.{◌≡◌, ℕ, ◌==◌, Bool, true, not, List, [], ◌∷◌, codes}
use Rattle.std.specs.List.{before_first, flat_map, list_all}
use Rattle.std.specs.Global.{Vec}
use Rattle.messages.specs.Filled.{filled}
use Rattle.play_core.specs.Spelling.{line_text, says}

-- words with a text at each of their places, as a comment
abbrev pub comment : List ℕ → List (List ℕ) → List ℕ
comment words told = line_text (says (filled words told))

-- the byte is no line feed, and none of the text is
abbrev pub is_in_line : ℕ → Bool
is_in_line b = not (b == 10)

abbrev pub IsInLine : List ℕ → Type 0
IsInLine text = list_all is_in_line text ≡ true

-- a line of what is told as a comment
abbrev pub said_line : List ℕ → List ℕ
said_line words = comment (codes " {}") (words ∷ [])

-- what of a text stands in its first line
abbrev pub first_line : List ℕ → List ℕ
first_line text = before_first (λ b. b == 10) text

abbrev pub said_lines : List (Vec ℕ) → List ℕ
said_lines lines = flat_map (λ l. said_line (first_line l.items)) lines
