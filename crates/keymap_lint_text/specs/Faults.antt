-- What is said of the fault of a text.
use Rattle.std.specs.Prelude.{ℕ, ◌-◌, ◌/◌, ◌%◌, ◌==◌, Bool, true, false, ◌&&◌, ◌||◌, not, nat_lt, if◌then◌else◌}
use Rattle.std.specs.Prelude.{List, [], ◌∷◌, codes, decimal, length, take, drop, slice_index, encode_utf8}
use Rattle.std.specs.Prelude.{Option, Some, None, Result, Ok, Err}
use Rattle.std.specs.Char.{digit_char, is_ascii_hexdigit, to_ascii_lowercase}
use Rattle.std.specs.List.{flat_map, before_first}
use Rattle.bstr.specs.Utf8.{decoded}
use Rattle.keymap_core.specs.CodePoints.{code_digits}
use Rattle.keymap_text.specs.declared.fault.TextFaultKind.{TextFaultKind}
use Rattle.keymap_text.specs.declared.fault.TextFaultKind.TheVariants as faults
use Rattle.keymap_places.specs.declared.wanted.Wanted.{Wanted}
use Rattle.keymap_places.specs.declared.wanted.Wanted.TheVariants as wants
use Rattle.keymap_places.specs.declared.wanted.DefinitionStart.{DefinitionStart}
use Rattle.keymap_places.specs.declared.wanted.FaultPlace.{FaultPlace}
use Rattle.keymap_text.specs.declared.words.Meaning.{Meaning}
use Rattle.keymap_text.specs.declared.words.Meaning.TheVariants.{Number, Char, Act, Combined, OutOfRange, Letter}
use Rattle.keymap_text.specs.declared.words.Meaning.TheVariants.{Unknown}
use Rattle.keymap_text.specs.Lexical.{TokenValue, tokens_after, first, is_word}
use Rattle.keymap_text.specs.Words.{meaning}
use Rattle.keymap_lint_text.specs.declared.words.TheConstants as words
use Rattle.messages.specs.Filled.{filled}
use Rattle.keymap_lint_text.specs.Hints.{is_utf16}
use Rattle.keymap_lint_text.specs.Joined.{joined_word}
use Rattle.keymap_lint_text.specs.Near.{meant_name}
use Rattle.keymap_names.specs.Shown.{shown_chars, word_text}
use Rattle.keymap_lint_text.specs.Wanted.{started_text, wanted_text}

-- what stands first at a place: a token, nothing, or a fault
abbrev pub first_at : List ℕ → ℕ → Result (Option TokenValue) (TextFaultKind × ℕ)
first_at text place = first (tokens_after 0 place (drop place text))

abbrev pub token_bytes : Result (Option TokenValue) (TextFaultKind × ℕ) → List ℕ
token_bytes (Ok None) = []
token_bytes (Ok (Some t)) = t.bytes
token_bytes (Err f) = []

abbrev pub is_refused : Result (Option TokenValue) (TextFaultKind × ℕ) → Bool
is_refused (Ok t) = false
is_refused (Err f) = true

abbrev pub ends_word : ℕ → Bool
ends_word c = not (is_word c)

-- the word in front of bytes
abbrev pub front_word : List ℕ → List ℕ
front_word bytes = before_first ends_word bytes

abbrev pub is_no_hex : ℕ → Bool
is_no_hex c = not (is_ascii_hexdigit c)

-- the hexadecimal digits behind `U+` or `u+` in front of bytes
abbrev pub unicode_digits : List ℕ → List ℕ
unicode_digits bytes =
    if to_ascii_lowercase (slice_index bytes 0) == 117 && slice_index bytes 1 == 43
    then before_first is_no_hex (drop 2 bytes)
    else []

-- the character in front of bytes, as it is shown; it has four bytes at most
unfoldable pub front_text : List ℕ → List ℕ
front_text bytes = flat_map encode_utf8 (take 1 (shown_chars (take 4 bytes)))

-- up to a blank, and DEL
abbrev pub is_unnamed : ℕ → Bool
is_unnamed c = nat_lt c 33 || c == 127

abbrev pub hex_byte : ℕ → List ℕ
hex_byte c = digit_char (c / 16) ∷ digit_char (c % 16) ∷ []

-- the three bytes of a byte order mark
abbrev pub is_mark : List ℕ → Bool
is_mark bytes = slice_index bytes 0 == 0xef && slice_index bytes 1 == 0xbb && slice_index bytes 2 == 0xbf

unfoldable pub lone_byte_text : List ℕ → List ℕ
lone_byte_text bytes =
    if is_unnamed (slice_index bytes 0)
    then filled (codes "the byte 0x{} begins no word") (hex_byte (slice_index bytes 0) ∷ [])
    else if is_mark bytes then filled (codes "a byte order mark begins no word; remove it") []
    else filled (codes "{} begins no word; a character that is meant is quoted: '{}'")
    (front_text bytes ∷ front_text bytes ∷ [])

-- what is said of the bytes of a text from a place on that begin no token
unfoldable pub bad_byte_text : List ℕ → List ℕ → List ℕ
bad_byte_text text bytes =
    if is_utf16 text then filled (codes "the text is UTF-16; save it as UTF-8") [] else lone_byte_text bytes

-- the character in front of bytes, if one other than a line feed stands there, and how many bytes it has
unfoldable pub front_character : List ℕ → Option (ℕ × ℕ)
front_character bytes = elim (decoded bytes).char [
  | None ↦ None
  | Some c ↦ if c == 10 then None else Some (c, (decoded bytes).size)
]

-- the two characters in front of bytes, where an apostrophe stands behind them
unfoldable pub two_characters : List ℕ → Option (ℕ × ℕ)
two_characters bytes = elim (front_character bytes) [
  | None ↦ None
  | Some first ↦ elim (front_character (drop first.1 bytes)) [
    | None ↦ None
    | Some second ↦
        if slice_index (drop second.1 (drop first.1 bytes)) 0 == 39 then Some (first.0, second.0) else None
  ]
]

abbrev pub between_text : Option (ℕ × ℕ) → List ℕ
between_text None = filled words.BAD_LITERAL.now []
between_text (Some both) =
    filled (codes "two characters stand between the apostrophes: U+{} and U+{}; a quoted character is one")
    (code_digits both.0 ∷ code_digits both.1 ∷ [])

-- what is said of an apostrophe that begins no quoted character, by the bytes from it on
unfoldable pub bad_literal_text : List ℕ → List ℕ
bad_literal_text bytes = between_text (two_characters (drop 1 bytes))

abbrev pub wants_character : Wanted → Bool
wants_character (wants.Cell n) = true
wants_character wants.AccentCharacter = true
wants_character (wants.Base n) = true
wants_character (wants.Composed n) = true
wants_character _ = false

abbrev pub wants_cell : Wanted → Bool
wants_cell (wants.Cell n) = true
wants_cell _ = false

abbrev pub wants_lock : Wanted → Bool
wants_lock wants.Lock = true
wants_lock _ = false

-- what may stand in a cell that gives nothing, and as a lock letter
abbrev pub help_text : Wanted → List ℕ
help_text wanted =
    if wants_cell wanted then codes "; a character is written as 'x' or 0xh, a cell that gives nothing as nop"
    else if wants_lock wanted then codes "; a lock letter is O, C, N or B"
    else []

-- the name that is meant by the word in front of bytes
abbrev pub front_meant : List ℕ → Wanted → List ℕ
front_meant bytes wanted = meant_name (front_word bytes) (joined_word bytes) wanted

-- that name, or what may stand here
unfoldable pub near_text : List ℕ → Wanted → List ℕ
near_text bytes wanted =
    if length (front_meant bytes wanted) == 0 then help_text wanted
    else filled (codes "; did you mean {}") (word_text (front_meant bytes wanted) ∷ [])

-- what may have been meant by the word in front of these bytes
unfoldable pub meant_text : List ℕ → Wanted → List ℕ
meant_text bytes wanted =
    if nat_lt 0 (length (unicode_digits bytes))
    then filled (codes "; for U+{} write 0x{}")
    (word_text (unicode_digits bytes) ∷ word_text (unicode_digits bytes) ∷ [])
    else if length (front_word bytes) == 1 && wants_character wanted
    then filled (codes "; the character is '{}'") (word_text (front_word bytes) ∷ [])
    else near_text bytes wanted

unfoldable pub bad_word_text : List ℕ → Wanted → List ℕ
bad_word_text bytes wanted =
    if nat_lt 32 (length (front_word bytes))
    then filled (codes "a word has at most 32 bytes; this one has {}{}")
    (decimal (length (front_word bytes)) ∷ help_text wanted ∷ [])
    else filled (codes "{} means nothing{}") (word_text (front_word bytes) ∷ meant_text bytes wanted ∷ [])

abbrev pub is_letter : Meaning → Bool
is_letter (Number n) = false
is_letter (Char c) = false
is_letter (Act a) = false
is_letter Combined = false
is_letter OutOfRange = false
is_letter (Letter f) = true
is_letter Unknown = false

abbrev pub is_lock_letter : List ℕ → Bool
is_lock_letter token = length token == 1 && is_letter (meaning token)

-- how many cells the slot has where its lock letter may be meant, or where one more token stands than it has cells
unfoldable pub cells_text : List ℕ → Wanted → Option DefinitionStart → List ℕ
cells_text token (wants.Cell n) d =
    if is_lock_letter token then filled (codes "; {} has {} of 8 cells") (started_text d ∷ decimal n ∷ []) else []
cells_text token wants.Lock d = filled (codes "; it has its 8 cells") []
cells_text token wants.Definition d = []
cells_text token wants.AccentCharacter d = []
cells_text token (wants.Pair n) d = []
cells_text token (wants.Base n) d = []
cells_text token (wants.Composed n) d = []
cells_text token (wants.PairEnd n) d = []

-- s begins the names of screens
abbrev pub is_screen : List ℕ → Bool
is_screen word = to_ascii_lowercase (slice_index word 0) == 115

abbrev pub but_last : List ℕ → List ℕ
but_last bytes = take (length bytes - 1) bytes

unfoldable pub end_text : List ℕ → FaultPlace → List ℕ
end_text text f =
    if is_refused (first_at text f.behind) then filled (codes "the text ends in a quoted character") []
    else filled (codes "the text ends where {} is wanted") (wanted_text f.wanted f.definition ∷ [])

-- what is said of the fault of a text at a place
unfoldable pub fault_text : List ℕ → ℕ → TextFaultKind → FaultPlace → List ℕ
fault_text text place faults.BadByte f = bad_byte_text text (drop place text)
fault_text text place faults.BadLiteral f = bad_literal_text (drop place text)
fault_text text place faults.BadWord f = bad_word_text (drop place text) f.wanted
fault_text text place faults.Unexpected f =
    filled words.UNEXPECTED.now (word_text (token_bytes (first_at text place)) ∷ wanted_text f.wanted f.definition
    ∷ cells_text (token_bytes (first_at text place)) f.wanted f.definition ∷ [])
fault_text text place faults.KeyTooLarge f =
    filled words.KEY_TOO_LARGE.now (word_text (front_word (drop place text)) ∷ [])
fault_text text place faults.BadChar f = filled words.BAD_CHAR.now (word_text (front_word (drop place text)) ∷ [])
fault_text text place faults.BadFunction f =
    filled words.BAD_FUNCTION.now (word_text (front_word (drop place text))
    ∷ (if is_screen (front_word (drop place text)) then words.SCREENS.now else words.FUNCTION_KEYS.now) ∷ [])
fault_text text place faults.TooManyPairs f = filled words.TOO_MANY_PAIRS.now (started_text f.definition ∷ [])
fault_text text place faults.ZeroBase f = filled words.ZERO_BASE.now []
fault_text text place faults.Combined f =
    filled words.COMBINED.now (word_text (front_word (drop place text)) ∷ word_text
    (but_last (front_word (drop place text)))
    ∷ [])
fault_text text place faults.EndInside f = end_text text f
