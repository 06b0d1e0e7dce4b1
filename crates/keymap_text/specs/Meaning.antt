-- What a text says: the map that it spells, or its fault.
use Rattle.std.specs.Prelude.{◌≡◌, ℕ, ◌+◌, ◌==◌, Bool, true, false, if◌then◌else◌, not, ◌&&◌, List, [], ◌∷◌, map, take}
use Rattle.std.specs.Prelude.{count_by, Option, Some, None, Result, Ok, Err, ⊤}
use Rattle.keymap_text.specs.Types.{TextFaultKind, TextFault, TextError, TokenKind, Item}
use Rattle.keymap_text.specs.declared.fault.TextFaultKind.TheVariants as faults
use Rattle.keymap_text.specs.declared.fault.TextError.TheVariants as errors
use Rattle.keymap_text.specs.declared.token.TokenKind.TheVariants as kinds
use Rattle.keymap_text.specs.Lexical.{TokenValue, Tokens, Ends, Stops, Then, tokens_after}
use Rattle.keymap_text.specs.Words.{item}
use Rattle.keymap_core.specs.Maps.{MapValue}
use Rattle.keymap_text.specs.Rows.{Definition, IsRow, map_of}
use Rattle.keymap_text.specs.Places.{RowPlace, AtDefinition, next, may_end}

-- the line of a place: 1, and the LF bytes before it
abbrev pub line : List ℕ → ℕ → ℕ
line bytes place = 1 + count_by (λ c. c == 10) (take place bytes)

abbrev pub is_word_kind : TokenKind → Bool
is_word_kind kinds.Word = true
is_word_kind _ = false

abbrev pub is_end_inside : TextFaultKind → Bool
is_end_inside faults.EndInside = true
is_end_inside _ = false

-- may more bytes change this token? those of a last word may
abbrev pub is_settled : TokenValue → Bool
is_settled t = not (is_word_kind t.kind && t.last)

-- the tokens in order, and what stands after them: the end of the text, or a fault with its place
unfoldable pub list_of : Tokens → List TokenValue
list_of (Then t ts) = t ∷ list_of ts
list_of _ = []

unfoldable pub ending_of_tokens : Tokens → Result ℕ (TextFaultKind × ℕ)
ending_of_tokens (Then t ts) = ending_of_tokens ts
ending_of_tokens (Ends q) = Ok q
ending_of_tokens (Stops f q) = Err (f, q)

abbrev pub item_of : TokenValue → Item
item_of t = item t.kind t.bytes

abbrev pub tokens : List ℕ → List TokenValue
tokens text = list_of (tokens_after 0 0 text)

abbrev pub items : List ℕ → List Item
items text = map item_of (tokens text)

abbrev pub ending : List ℕ → Result ℕ (TextFaultKind × ℕ)
ending text = ending_of_tokens (tokens_after 0 0 text)

-- The text is a row of definitions up to its end, and the map is what the last ones say.
pub record Spells (text : List ℕ) (m : MapValue) : Type 0 where
  pub definitions : List Definition
  pub row : IsRow (items text) definitions
  pub end : ℕ
  pub whole : ending text ≡ Ok end
  pub map : m ≡ map_of definitions

-- the place to which tokens lead, or the first one that is refused, and why
unfoldable pub place_after : RowPlace → List TokenValue → Result RowPlace (TextFaultKind × TokenValue)
place_after p [] = Ok p
place_after p (t ∷ ts) = elim (next p (item_of t)) [ Ok p' ↦ place_after p' ts | Err f ↦ Err (f, t) ]

-- a fault, its offset, and whether it stays whatever follows the text
pub record FaultInText : Type 0 where
  pub kind : TextFaultKind
  pub offset : ℕ
  pub early : Bool

abbrev pub found_in : Result RowPlace (TextFaultKind × TokenValue) → Result ℕ (TextFaultKind × ℕ) → Option FaultInText
-- a token is refused where it stands
found_in (Err (f, t)) end = Some (record { kind = f; offset = t.start; early = is_settled t })
-- no token stands after the last
found_in (Ok p) (Err (f, q)) = Some (record { kind = f; offset = q; early = not (is_end_inside f) })
-- the text ends inside a definition
found_in (Ok p) (Ok q) =
    if may_end p then None else Some (record { kind = faults.EndInside; offset = q; early = false })

abbrev pub fault_of : List ℕ → Option FaultInText
fault_of text = found_in (place_after AtDefinition (tokens text)) (ending text)

abbrev pub FaultAt : List ℕ → TextFault → Bool → Type 0
FaultAt text f early = (fault_of text ≡ Some (record { kind = f.kind; offset = f.offset; early = early }))
    × (f.line ≡ line text f.offset)

abbrev pub Fault : List ℕ → TextFault → Type 0
Fault text f = (early : Bool) × FaultAt text f early

abbrev pub Early : List ℕ → TextFault → Type 0
Early text f = FaultAt text f true

-- two tokens are one, but for whether the text ends after it
abbrev pub IsSameToken : TokenValue → TokenValue → Type 0
IsSameToken t u = (t.kind ≡ u.kind) × (t.bytes ≡ u.bytes) × (t.start ≡ u.start)

-- what reading a text to its end answers
abbrev pub Means : Result MapValue TextFault → List ℕ → Type 0
Means (Ok m) text = Spells text m
Means (Err f) text = Fault text f

-- with the fault as an error of reading, where the map may have been refused its memory
abbrev pub Reads : Result MapValue TextError → List ℕ → Type 0
Reads (Ok m) text = Spells text m
Reads (Err errors.Memory) text = ⊤
Reads (Err (errors.Read f)) text = ⊥
Reads (Err (errors.Fault f)) text = Fault text f
