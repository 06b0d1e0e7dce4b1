-- How bytes are split into tokens. Blanks and comments separate; a parenthesis, a quoted character and a word are
-- tokens.
use Rattle.std.specs.Prelude.{ℕ, zero, suc, ◌+◌, Bool, true, false, if◌then◌else◌, not, ◌==◌, ◌&&◌, ◌||◌, nat_lt}
use Rattle.std.specs.Prelude.{nat_le, List, [], ◌∷◌, length, take, drop, Option, Some, None, Result, Ok, Err}
use Rattle.std.specs.Prelude.{slice_index}
use Rattle.std.specs.Char.{is_ascii_alphanumeric}
use Rattle.std.specs.List.{prefix_len}
use Rattle.bstr.specs.Utf8.{decoded, Decoded}
use Rattle.keymap_text.specs.Types.{TextFaultKind, BadByte, BadLiteral, BadWord, EndInside, TokenKind, ParenL, ParenR}
use Rattle.keymap_text.specs.Types.{Literal, Word}

-- blank, tab, CR, LF
abbrev pub is_blank : ℕ → Bool
is_blank c = c == 32 || (c == 9 || (c == 13 || c == 10))

-- a blank that ends no line
abbrev pub is_space : ℕ → Bool
is_space c = c == 32 || (c == 9 || c == 13)

-- an ASCII letter or digit
abbrev pub is_word : ℕ → Bool
is_word c = is_ascii_alphanumeric c

-- a blank, or the beginning of a comment
abbrev pub separates : ℕ → Bool
separates c = is_blank c || c == 35

-- no LF
abbrev pub stays_on_line : ℕ → Bool
stays_on_line c = not (c == 10)

-- how many bytes at the front pass the test
abbrev pub leading : (ℕ → Bool) → List ℕ → ℕ
leading p bytes = prefix_len p bytes

-- What stands at the front of some bytes, with the number of its bytes after the first one.
pub data Front : Type 0 where
  -- a blank or a comment
  Skipped : ℕ → Front
  Found : TokenKind → ℕ → Front
  Refused : TextFaultKind → Front
  -- a quoted character that the bytes break off
  Unfinished : Front

-- the quoted character, where these bytes stand after the first apostrophe; c is their first character, of n bytes
abbrev pub closing : ℕ → ℕ → List ℕ → Front
closing c n bytes =
    if c == 10 then Refused BadLiteral
    else if nat_le (length bytes) n then Unfinished
    else if slice_index bytes n == 39 then Found (Literal c) (n + 1)
    else Refused BadLiteral

-- where no character stands first, though the first n bytes may begin one
abbrev pub unclosed : ℕ → List ℕ → Front
unclosed n bytes = if length bytes == n then Unfinished else Refused BadLiteral

abbrev pub quoted : Decoded → List ℕ → Front
quoted d bytes = elim d.char [ Some c ↦ closing c d.size bytes | None ↦ unclosed d.size bytes ]

-- a byte from 0x80 on, and an apostrophe
abbrev pub is_lone : List ℕ → Bool
is_lone bytes = nat_lt 1 (length bytes) && (nat_lt 127 (slice_index bytes 0) && slice_index bytes 1 == 39)

unfoldable pub literal : List ℕ → Front
literal bytes = if is_lone bytes then Found (Literal (slice_index bytes 0)) 2 else quoted (decoded bytes) bytes

-- a word with n bytes after the first one
abbrev pub word : ℕ → Front
word n = if nat_lt n 32 then Found Word n else Refused BadWord

unfoldable pub front_of : ℕ → List ℕ → Front
front_of c bytes =
    if is_blank c then Skipped 0
    else if c == 35 then Skipped (leading stays_on_line bytes)
    else if c == 40 then Found ParenL 0
    else if c == 41 then Found ParenR 0
    else if c == 39 then literal bytes
    else if is_word c then word (leading is_word bytes)
    else Refused BadByte

-- a token, with its bytes and its place in the text, and whether the text ends after it
pub record TokenValue : Type 0 where
  pub kind : TokenKind
  pub bytes : List ℕ
  pub start : ℕ
  pub last : Bool

-- Tokens in order, and what ends them: the end of the text at a place, or a fault at a place.
pub data Tokens : Type 0 where
  Ends : ℕ → Tokens
  Stops : TextFaultKind → ℕ → Tokens
  Then : TokenValue → Tokens → Tokens

abbrev pub is_empty : List ℕ → Bool
is_empty [] = true
is_empty (c ∷ cs) = false

-- a token of these bytes at the place q, before others
abbrev pub token_before : TokenKind → List ℕ → ℕ → List ℕ → TokenValue
token_before kind bytes q more = record { kind = kind; bytes = bytes; start = q; last = is_empty more }

-- The tokens of the bytes after the first k of them, where these bytes stand at the place q of the text.
unfoldable pub tokens_after : ℕ → ℕ → List ℕ → Tokens
tokens_after k q [] = Ends q
tokens_after (suc k) q (c ∷ bytes) = tokens_after k (q + 1) bytes
tokens_after zero q (c ∷ bytes) = elim (front_of c bytes) [
  | Skipped n ↦ tokens_after n (q + 1) bytes
  | Found kind n ↦ Then (token_before kind (c ∷ take n bytes) q (drop n bytes)) (tokens_after n (q + 1) bytes)
  | Refused f ↦ Stops f q
  | Unfinished ↦ Stops EndInside (q + 1 + length bytes)
]

-- the first token, none, or the fault with its place
abbrev pub first : Tokens → Result (Option TokenValue) (TextFaultKind × ℕ)
first (Ends q) = Ok None
first (Stops f q) = Err (f, q)
first (Then t ts) = Ok (Some t)
