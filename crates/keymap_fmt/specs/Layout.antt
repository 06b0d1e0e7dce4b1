-- Where a piece is written: what stands before it, and the state of the open line behind it.
use Rattle.std.specs.Prelude.{ℕ, ◌+◌, ◌-◌, ◌*◌, ◌==◌, ◌&&◌, Bool, true, false, if◌then◌else◌, not, max, List, [], ◌∷◌}
use Rattle.std.specs.Prelude.{◌++◌, length, replicate, slice_index, nat_lt, nat_le}
use Rattle.keymap_fmt.specs.Types.{TokenKind, Standing, Beside, Below, Apart, Part, Comment, Code, State}
use Rattle.keymap_text.specs.declared.token.TokenKind.TheVariants.{ParenL, Literal}
use Rattle.keymap_fmt.specs.declared.layout.Row.{Row}
use Rattle.keymap_fmt.specs.declared.layout.Row.TheVariants.{Slot, Accent, Pair}

-- how many places a token takes
abbrev pub width : TokenKind → List ℕ → ℕ
width (Literal c) bytes = 3
width other bytes = length bytes

abbrev pub is_open : TokenKind → Bool
is_open ParenL = true
is_open other = false

abbrev pub is_apart : Standing → Bool
is_apart Apart = true
is_apart other = false

-- the row that a word begins: that of a slot if it begins with a digit
abbrev pub row_of : List ℕ → Row
row_of bytes = if nat_le 48 (slice_index bytes 0) && nat_lt (slice_index bytes 0) 58 then Slot else Accent

-- how many tokens a row has: those of a slot, an accent's name and character, a pair with its parentheses
abbrev pub row_length : Row → ℕ
row_length Slot = 10
row_length Accent = 2
row_length Pair = 4

abbrev pub is_over : State → Bool
is_over s = nat_le (row_length s.row) s.taken

-- does a token begin a line? the first one of a definition does, and the parenthesis of a fifth pair
abbrev pub begins_line : State → TokenKind → Bool
begins_line s kind = is_over s && not (is_open kind && nat_lt s.pairs 4)

-- the state with the line that the token stands in
abbrev pub in_line : State → TokenKind → State
in_line s kind = if begins_line s kind then record s { column = 0; pairs = 0 } else s

-- with a row that has begun
abbrev pub in_pair : State → State
in_pair s = record s { row = Pair; taken = 0; pairs = s.pairs + 1 }

abbrev pub in_definition : State → List ℕ → State
in_definition s bytes = record s { row = row_of bytes; taken = 0 }

-- the state in which a token is written: in its line, and in the row that it goes on or begins
unfoldable pub opened : State → TokenKind → List ℕ → State
opened s kind bytes =
    let t = in_line s kind in
    if is_over s then (if is_open kind then in_pair t else in_definition t bytes) else t

-- where a token of n places is to begin, counted from 0
abbrev pub stop_in : Row → ℕ → ℕ → ℕ → ℕ
stop_in Slot taken pairs_at n = if taken == 0 then max 2 (5 - n) else if taken == 9 then 65 else 7 * taken + 1
stop_in Accent taken pairs_at n = if taken == 0 then 2 else 8
stop_in Pair taken pairs_at n = pairs_at

abbrev pub stop : State → ℕ → ℕ
stop s n = stop_in s.row s.taken s.pairs_at n

-- how many blanks stand before it
unfoldable pub lead : State → ℕ → ℕ
lead s n = max 1 (stop s n - s.column)

-- where pairs begin behind a token that ends before the column
abbrev pub pairs_behind : Row → ℕ → ℕ → ℕ
pairs_behind Pair pairs_at column = pairs_at
pairs_behind other pairs_at column = max 13 (column + 1)

-- the state behind a token of n places
abbrev pub advanced : State → ℕ → State
advanced s n = let column = s.column + lead s n + n in
    record s { column = column; taken = s.taken + 1; pairs_at = pairs_behind s.row s.pairs_at column }

-- the state behind a piece
unfoldable pub after : State → Part → List ℕ → State
after s Comment bytes = record s { column = 0; pairs = 0 }
after s (Code kind) bytes = advanced (opened s kind bytes) (width kind bytes)

-- the end of the open line, if one is open
abbrev pub line_end : ℕ → List ℕ
line_end column = if column == 0 then [] else 10 ∷ []

-- what stands before a piece that begins a line
abbrev pub line_begun : ℕ → Standing → List ℕ
line_begun column standing = line_end column ++ (if is_apart standing then 10 ∷ [] else [])

-- the line ends before a token: an empty line stands before a definition alone
abbrev pub lines_before : State → TokenKind → Standing → List ℕ
lines_before s kind standing =
    if begins_line s kind then line_begun s.column (if is_open kind then Below else standing) else []

-- what stands before a comment
abbrev pub comment_lead : ℕ → Standing → List ℕ
comment_lead column Beside = 32 ∷ 32 ∷ []
comment_lead column other = line_begun column other

-- what stands before a piece
unfoldable pub before : State → Part → List ℕ → Standing → List ℕ
before s Comment bytes standing = comment_lead s.column standing
before s (Code kind) bytes standing =
    lines_before s kind standing ++ replicate (lead (opened s kind bytes) (width kind bytes)) 32

-- what stands behind it
abbrev pub ending : Part → List ℕ
ending Comment = 10 ∷ []
ending (Code kind) = []

-- no line is open, and no row
abbrev pub start : State
start = record { column = 0; row = Pair; taken = 4; pairs_at = 0; pairs = 0 }
