-- What two texts have in common: their pieces, but for where they stand, and their tokens, but for their places.
use Rattle.std.specs.Prelude.{ℕ, Bool, true, false, List, [], ◌∷◌}
use Rattle.keymap_fmt.specs.Types.{TokenKind, Part, Comment, Code, Standing, Beside}
pub use Rattle.keymap_places.specs.Same.{kind_and_bytes}
use Rattle.keymap_fmt.specs.Pieces.{PieceValue}

abbrev pub part_and_bytes : PieceValue → Part × List ℕ
part_and_bytes p = (p.part, p.bytes)

-- whether it is a comment that stands behind a token in its line
abbrev pub is_beside : Part → Standing → Bool
is_beside Comment Beside = true
is_beside part standing = false

abbrev pub part_and_line : PieceValue → Part × List ℕ × Bool
part_and_line p = (p.part, p.bytes, is_beside p.part p.standing)

-- the token that a piece is, if it is one
abbrev pub token_in : Part → List ℕ → List (TokenKind × List ℕ)
token_in Comment bytes = []
token_in (Code kind) bytes = (kind, bytes) ∷ []

abbrev pub token_of : PieceValue → List (TokenKind × List ℕ)
token_of p = token_in p.part p.bytes
