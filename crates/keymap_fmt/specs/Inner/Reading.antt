-- What the search for a piece answers. Mirrors `next_piece` of src/piece.rt.
use Rattle.std.specs.Prelude.{◌≡◌, ◌<◌, ◌≤◌, ℕ, List, [], ◌∷◌, length, drop, Option, Some, None}
use Rattle.keymap_fmt.specs.Types.{Standing, Part, Comment, Code}
use Rattle.keymap_text.specs.declared.token.TokenKind.TheVariants.{Word}
use Rattle.keymap_fmt.specs.declared.piece.Piece.{Piece}
use Rattle.keymap_fmt.specs.Pieces.{PieceValue, pieces_after, behind}
use Rattle.keymap_fmt.specs.Layout.{width}

abbrev pub piece_view : Piece → PieceValue
piece_view p = record { part = p.part; bytes = p.bytes.now; standing = p.standing }

-- a token has as many bytes as places at least
abbrev pub HasBytes : Part → List ℕ → Type 0
HasBytes Comment bytes = Unit {0}
HasBytes (Code kind) bytes = width kind bytes ≤ length bytes

-- and a word has few
abbrev pub IsShort : Part → List ℕ → Type 0
IsShort Comment bytes = Unit {0}
IsShort (Code kind) bytes = kind ≡ Word → length bytes ≤ 32

-- The piece is the first one from the place on, where that stands at s, and the others stand behind it.
pub record ComesNext (text : List ℕ) (at : ℕ) (s : Standing) (p : Piece) : Type 0 where
  pub ends : at < p.end
  pub within : p.end ≤ length text
  pub bytes : HasBytes p.part p.bytes.now
  pub short : IsShort p.part p.bytes.now
  pub others : pieces_after 0 s (drop at text) ≡ piece_view p ∷ pieces_after 0 (behind p.part) (drop p.end text)

abbrev pub MayCome : List ℕ → ℕ → Standing → Option Piece → Type 0
MayCome text at s (Some p) = ComesNext text at s p
MayCome text at s None = pieces_after 0 s (drop at text) ≡ []
