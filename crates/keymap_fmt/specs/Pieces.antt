-- A text as a row of pieces: its tokens and its comments, and where each stands.
use Rattle.std.specs.Prelude.{ℕ, zero, suc, ◌-◌, if◌then◌else◌, ◌==◌, List, [], ◌∷◌, length, take, count_by}
use Rattle.std.specs.List.{suffix_len}
use Rattle.keymap_text.specs.Lexical.{is_space, front_of, Found, Skipped, Refused, Unfinished}
use Rattle.keymap_fmt.specs.Types.{TokenKind, Standing, AtTop, Beside, Below, Apart, Part, Comment, Code}

-- a token or a comment, with its bytes, and where it stands
pub record PieceValue : Type 0 where
  pub part : Part
  pub bytes : List ℕ
  pub standing : Standing

-- where a piece stands if one more line ends before it
abbrev pub lower : Standing → Standing
lower AtTop = AtTop
lower Beside = Below
lower Below = Apart
lower Apart = Apart

-- where a piece stands if the blank c stands before it
abbrev pub lowered : ℕ → Standing → Standing
lowered c s = if c == 10 then lower s else s

-- how many lines end in some bytes
abbrev pub line_ends : List ℕ → ℕ
line_ends bytes = count_by (λ c. c == 10) bytes

-- where a piece stands that comes right behind another: a comment takes its line with it
abbrev pub behind : Part → Standing
behind Comment = Below
behind (Code kind) = Beside

-- the bytes without the blanks, tabs and CRs at their end
unfoldable pub trimmed : List ℕ → List ℕ
trimmed bytes = take (length bytes - suffix_len is_space bytes) bytes

abbrev pub comment : List ℕ → Standing → PieceValue
comment bytes s = record { part = Comment; bytes = bytes; standing = s }

abbrev pub code : TokenKind → List ℕ → Standing → PieceValue
code kind bytes s = record { part = Code kind; bytes = bytes; standing = s }

-- The pieces of the bytes behind the first k of them, up to a byte where no token stands. A piece that comes first
-- stands at s.
unfoldable pub pieces_after : ℕ → Standing → List ℕ → List PieceValue
pieces_after k s [] = []
pieces_after (suc k) s (c ∷ bytes) = pieces_after k s bytes
pieces_after zero s (c ∷ bytes) = elim (front_of c bytes) [
  | Skipped n ↦ if c == 35 then comment (trimmed (c ∷ take n bytes)) s ∷ pieces_after (suc n) Below bytes
      else pieces_after n (lowered c s) bytes
  | Found kind n ↦ code kind (c ∷ take n bytes) s ∷ pieces_after n Beside bytes
  | Refused f ↦ []
  | Unfinished ↦ []
]

abbrev pub pieces : List ℕ → List PieceValue
pieces text = pieces_after 0 AtTop text
