-- Words with places for what is told. A place is written `{}`.
use Rattle.std.specs.Prelude.{ℕ, ◌+◌, ◌≤◌, ◌==◌, ◌&&◌, Bool, not, List, [], ◌∷◌, ◌++◌, drop, length}
use Rattle.std.specs.List.{before_first, position_or_len, list_any}

abbrev pub is_hole : ℕ → Bool
is_hole c = c == 123

abbrev pub words_before : List ℕ → List ℕ
words_before words = before_first is_hole words

abbrev pub words_behind : List ℕ → List ℕ
words_behind words = drop (position_or_len is_hole words + 2) words

-- the words with these texts at their places, in this order
unfoldable pub filled : List ℕ → List (List ℕ) → List ℕ
filled words [] = words
filled words (t ∷ ts) = words_before words ++ t ++ filled (words_behind words) ts

-- the words have as many places as there are texts
abbrev pub has_places : List ℕ → List (List ℕ) → Bool
has_places words [] = not (list_any is_hole words)
has_places words (t ∷ ts) = list_any is_hole words && has_places (words_behind words) ts

-- how many bytes a line has at most
abbrev pub line_limit : ℕ
line_limit = 96

-- a line of so many bytes has room for the words with these texts
abbrev pub HasRoom : ℕ → List ℕ → List (List ℕ) → Type 0
HasRoom used words [] = used + length words ≤ line_limit
HasRoom used words (t ∷ ts) =
    (used + length (words_before words) + length t ≤ line_limit)
    × HasRoom (used + length (words_before words) + length t) (words_behind words) ts
