-- What a quoted character is, in the words of the format: an apostrophe, one character, an apostrophe.
use Rattle.std.specs.Prelude.{◌≡◌, ◌≢◌, ℕ, ◌<◌, ◌≤◌, List, [], ◌∷◌, ◌++◌, length, encode_utf8, Option, Some}
use Rattle.std.specs.Prelude.{Result, Ok, Err, ◌⊎◌}
use Rattle.std.specs.Char.{IsScalar}
use Rattle.keymap_text.specs.Types.{TextFaultKind, Literal}
use Rattle.keymap_text.specs.declared.fault.TextFaultKind.TheVariants as faults
use Rattle.keymap_text.specs.Lexical.{TokenValue, token_before}

-- The bytes between the apostrophes: the UTF-8 of a character other than LF, or one byte from 0x80 on, which stands for
-- the character of its number.
abbrev pub IsCharacter : ℕ → List ℕ → Type 0
IsCharacter c bytes = (IsScalar c × (c ≢ 10) × (bytes ≡ encode_utf8 c)) ⊎ ((0x80 ≤ c) × (bytes ≡ c ∷ []))

-- The bytes, from the first apostrophe to the last, are the character c.
pub record IsQuoted (c : ℕ) (bytes : List ℕ) : Type 0 where
  pub between : List ℕ
  pub character : IsCharacter c between
  pub apostrophes : bytes ≡ 39 ∷ (between ++ 39 ∷ [])

-- A quoted character stands in front of these bytes.
pub record BeginsQuoted (bytes : List ℕ) : Type 0 where
  pub character : ℕ
  pub token : List ℕ
  pub more : List ℕ
  pub quoted : IsQuoted character token
  pub front : bytes ≡ token ++ more

-- The bytes are a quoted character but for at least one byte more.
pub record IsUnfinished (bytes : List ℕ) : Type 0 where
  pub character : ℕ
  pub more : List ℕ
  pub some : 0 < length more
  pub quoted : IsQuoted character (bytes ++ more)

-- the token of a quoted character at the place q, with more bytes behind it
abbrev pub quoted_token : ℕ → ℕ → List ℕ → List ℕ → TokenValue
quoted_token q c bytes more = token_before (Literal c) bytes q more

-- Why the first token of these bytes, or the fault in its place, is what it is.
abbrev pub IsReason : List ℕ → Result (Option TokenValue) (TextFaultKind × ℕ) → Type 0
IsReason bytes (Ok (Some t)) = BeginsQuoted bytes
IsReason bytes (Err (faults.EndInside, q)) = IsUnfinished bytes
IsReason bytes (Err (faults.BadLiteral, q)) = (¬ BeginsQuoted bytes) × (¬ IsUnfinished bytes)
IsReason bytes other = ⊥
