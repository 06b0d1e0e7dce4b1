-- Where the definitions of a text stand: the tokens of each one.
use Rattle.std.specs.Prelude.{◌≡◌, ◌<◌, ◌≤◌, ℕ, ◌+◌, ◌==◌, Bool, false, if◌then◌else◌, List, [], ◌∷◌}
use Rattle.std.specs.Prelude.{◌++◌, length, map, take, drop, Option, Some, None, nat_lt}
use Rattle.std.specs.Option.{option_or}
use Rattle.keymap_core.specs.Maps.{MapValue}
use Rattle.keymap_places.specs.Types.{Defined, Slot, Accent, Placed}
use Rattle.keymap_places.specs.Types.{Span, Number, Act, Item, Value}
use Rattle.keymap_core.specs.Numbers.{slot_limit, accent_limit}
use Rattle.keymap_text.specs.Items.{accent_index}
use Rattle.keymap_text.specs.Lexical.{TokenValue}
use Rattle.keymap_text.specs.Meaning.{item_of, tokens}
use Rattle.keymap_text.specs.Rows.{Definition, KeyDefinition, AccentDefinition, Defines, map_of}

-- a definition, and the tokens that spell it
pub record Row : Type 0 where
  pub definition : Definition
  pub tokens : List TokenValue

-- The tokens are those of the rows, one row after the other, and each row's tokens define what it says.
pub data AreRows : List TokenValue → List Row → Type 0 where
  no_row : AreRows [] []
  one_row : {ts : List TokenValue} {rs : List Row} (r : Row) → Defines (map item_of r.tokens) r.definition
      → AreRows ts rs → AreRows (r.tokens ++ ts) (r ∷ rs)

-- The rows are those of the text, and the last of them make the map.
pub record IsSpelledBy (text : List ℕ) (m : MapValue) (rows : List Row) : Type 0 where
  pub are_rows : AreRows (tokens text) rows
  pub spelled : m ≡ map_of (map (λ (r : Row). r.definition) rows)

-- where a token stands: the offset of its first byte, and that after its last one
abbrev pub span_of : TokenValue → Span
span_of t = record { start = t.start; end = t.start + length t.bytes }

-- a token's bytes are those of the text at its place
pub record IsPlaced (text : List ℕ) (t : TokenValue) : Type 0 where
  pub within : t.start + length t.bytes ≤ length text
  pub bytes : take (length t.bytes) (drop t.start text) ≡ t.bytes

abbrev pub defined : Definition → Defined
defined (KeyDefinition slot e) = Slot slot
defined (AccentDefinition i a) = Accent i

-- what the definition defines that begins with this token, if one does
abbrev pub begins : Item → Option Defined
begins (Value (Number n)) = if nat_lt n slot_limit then Some (Slot n) else None
begins (Value (Act a)) = elim (accent_index a) [ Some i ↦ Some (Accent i) | None ↦ None ]
begins other = None

-- The slot or accent is one that there is.
abbrev pub HasIndex : Defined → Type 0
HasIndex (Slot slot) = slot < slot_limit
HasIndex (Accent i) = i < accent_limit

-- the definition begins at one of n tokens
abbrev pub StandsAmong : ℕ → Placed → Type 0
StandsAmong n p = (p.first < n) × HasIndex p.what

-- what each row defines, and how many tokens stand before it, where n stand before the first
unfoldable pub places_after : ℕ → List Row → List Placed
places_after n [] = []
places_after n (r ∷ rs) =
    record { what = defined r.definition; first = n } ∷ places_after (n + length r.tokens) rs

abbrev pub places_of : List Row → List Placed
places_of rows = places_after 0 rows

-- do they define the same?
abbrev pub is_same : Defined → Defined → Bool
is_same (Slot s) (Slot t) = s == t
is_same (Accent i) (Accent j) = i == j
is_same (Slot s) (Accent i) = false
is_same (Accent i) (Slot s) = false

-- the last of these definitions that defines this
unfoldable pub last_of : Defined → List Placed → Option Placed
last_of what [] = None
last_of what (p ∷ ps) = option_or (last_of what ps) (if is_same p.what what then Some p else None)
