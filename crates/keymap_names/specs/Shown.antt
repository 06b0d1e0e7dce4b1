-- What is shown of the bytes of a text.
use Rattle.std.specs.Prelude.{◌≡◌, ℕ, ◌==◌, Bool, IsTrue, not, ◌||◌, nat_lt, if◌then◌else◌, List, []}
use Rattle.std.specs.Prelude.{◌∷◌, ◌++◌, ⊤, codes, map, take, encode_utf8}
use Rattle.std.specs.Char.{IsScalar}
use Rattle.std.specs.List.{All, flat_map}
use Rattle.bstr.specs.Utf8.{lossy_chars}
use Rattle.keymap_core.specs.Unseen.{is_unseen}

-- U+FFFD stands for a character that a terminal doesn't show, other than a tab
abbrev pub shown_char : ℕ → ℕ
shown_char c = if c == 9 then c else if is_unseen c then 0xfffd else c

-- the characters that are shown of bytes; one U+FFFD stands for each maximal piece that isn't UTF-8
unfoldable pub shown_chars : List ℕ → List ℕ
shown_chars bytes = map shown_char (lossy_chars bytes)

-- the name of a file as it is shown, in one line
unfoldable pub shown_name : List ℕ → List ℕ
shown_name name = flat_map encode_utf8 (shown_chars name)

-- how many characters of a word are told
abbrev pub word_limit : ℕ
word_limit = 24

-- a word of a text as it is told: its first characters as they are shown
unfoldable pub word_text : List ℕ → List ℕ
word_text word = flat_map encode_utf8 (take word_limit (shown_chars word))

-- a tab, or a character of ASCII that a terminal shows: these are shown as they are
abbrev pub is_shown_byte : ℕ → Bool
is_shown_byte c = c == 9 || not (nat_lt c 32 || nat_lt 126 c)

-- a tab, or a character that a terminal shows
abbrev pub is_seen : ℕ → Bool
is_seen c = c == 9 || not (is_unseen c)

abbrev pub IsSeen : ℕ → Type 0
IsSeen c = IsScalar c × IsTrue (is_seen c)

-- The bytes are UTF-8 of such characters alone, so they stay in their line.
pub record IsLine (bytes : List ℕ) : Type 0 where
  pub characters : List ℕ
  pub spelled : bytes ≡ flat_map encode_utf8 characters
  pub seen : All IsSeen characters

-- each of these texts is such a line
abbrev pub AreLines : List (List ℕ) → Type 0
AreLines [] = ⊤
AreLines (t ∷ ts) = IsLine t × AreLines ts

-- what is printed of lines: each ends with a line feed
abbrev pub ended : List ℕ → List ℕ
ended line = line ++ codes "\n"

abbrev pub lines_text : List (List ℕ) → List ℕ
lines_text lines = flat_map ended lines

-- The bytes are such lines, each with a line feed at its end.
pub record IsPlainText (bytes : List ℕ) : Type 0 where
  pub lines : List (List ℕ)
  pub spelled : bytes ≡ lines_text lines
  pub plain : All IsLine lines
