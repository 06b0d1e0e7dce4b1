-- What the bytes of a token are on their own, wherever it stands in a text.
use Rattle.std.specs.Prelude.{◌≡◌, ℕ, ◌≤◌, true, false, List, ◌∷◌, ◌++◌, length, take, slice_index}
use Rattle.std.specs.List.{list_all}
use Rattle.keymap_text.specs.Types.{TokenKind, ParenL, ParenR, Literal, Word}
use Rattle.keymap_text.specs.Lexical.{is_blank, stays_on_line, front_of, Found}

-- a literal has two bytes behind its first one at least
abbrev pub IsWide : TokenKind → ℕ → Type 0
IsWide (Literal d) n = 2 ≤ n
IsWide ParenL n = Unit {0}
IsWide ParenR n = Unit {0}
IsWide Word n = Unit {0}

-- A token of this kind, c and the first n of these bytes.
pub record StandsAlone (kind : TokenKind) (c n : ℕ) (bytes : List ℕ) : Type 0 where
  -- the token ends within the bytes
  pub within : n ≤ length bytes
  -- the token is found again wherever its bytes stand before a blank or a line's end
  pub again : (b : ℕ) (more : List ℕ) → is_blank b ≡ true → front_of c (take n bytes ++ b ∷ more) ≡ Found kind n
  -- the token stands in one line
  pub on_line : list_all stays_on_line (c ∷ take n bytes) ≡ true
  -- the token ends with no blank
  pub end : is_blank (slice_index (c ∷ bytes) n) ≡ false
  pub wide : IsWide kind n
