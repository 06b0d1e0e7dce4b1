-- What a word means.
use Rattle.std.specs.Prelude.{ℕ, ◌+◌, ◌*◌, Bool, if◌then◌else◌, ◌&&◌, nat_lt, nat_le, List, [], ◌∷◌, ◌++◌}
use Rattle.std.specs.Prelude.{length, take, drop, map, fold, Option, Some, None, codes, bytes_eq}
use Rattle.std.specs.List.{list_all}
use Rattle.std.specs.Char.{to_ascii_lowercase, digit_value}
use Rattle.keymap_core.specs.Names.{named_of}
use Rattle.keymap_core.specs.declared.named.Named.{Named}
use Rattle.keymap_core.specs.declared.named.Named.TheVariants as n
use Rattle.keymap_core.specs.declared.entry.LockFlag.TheVariants as flags
use Rattle.keymap_text.specs.Types.{TokenKind, Meaning, Number, Char, Act, Combined, OutOfRange, Letter, Unknown}
use Rattle.keymap_text.specs.Types.{Item, Open, Close, Value}
use Rattle.keymap_text.specs.declared.token.TokenKind.TheVariants as kinds

-- names are one without regard to ASCII case
abbrev pub same_name : List ℕ → List ℕ → Bool
same_name a b = bytes_eq (map to_ascii_lowercase a) (map to_ascii_lowercase b)

-- the names of the control characters 0 to 31, in their order
abbrev pub control_names : List (List ℕ)
control_names =
    codes "nul" ∷ codes "soh" ∷ codes "stx" ∷ codes "etx" ∷ codes "eot" ∷ codes "enq" ∷ codes "ack" ∷ codes "bel"
    ∷ codes "bs" ∷ codes "ht" ∷ codes "nl" ∷ codes "vt" ∷ codes "ff" ∷ codes "cr" ∷ codes "so" ∷ codes "si"
    ∷ codes "dle" ∷ codes "dc1" ∷ codes "dc2" ∷ codes "dc3" ∷ codes "dc4" ∷ codes "nak" ∷ codes "syn" ∷ codes "etb"
    ∷ codes "can" ∷ codes "em" ∷ codes "sub" ∷ codes "esc" ∷ codes "fs" ∷ codes "gs" ∷ codes "rs" ∷ codes "ns" ∷ []

abbrev pub characters_from : ℕ → List (List ℕ) → List (List ℕ × Meaning)
characters_from c [] = []
characters_from c (name ∷ names) = (name, Char c) ∷ characters_from (c + 1) names

-- the other names of characters, and the lock letters
abbrev pub more_names : List (List ℕ × Meaning)
more_names =
    (codes "del", Char 127) ∷ (codes "lf", Char 10) ∷ (codes "np", Char 12) ∷ (codes "us", Char 31)
    ∷ (codes "o", Letter flags.O) ∷ (codes "c", Letter flags.C) ∷ (codes "n", Letter flags.N)
    ∷ (codes "b", Letter flags.B) ∷ []

abbrev pub table : List (List ℕ × Meaning)
table = characters_from 0 control_names ++ more_names

-- what the first of these names means that is the word
unfoldable pub named : List (List ℕ × Meaning) → List ℕ → Option Meaning
named [] w = None
named (entry ∷ entries) w = if same_name entry.0 w then Some entry.1 else named entries w

abbrev pub is_digit : ℕ → ℕ → Bool
is_digit base c = nat_lt (digit_value c) base

abbrev pub number : ℕ → List ℕ → ℕ
number base digits = fold (λ n c. n * base + digit_value c) 0 digits

-- the number that one or more digits spell
unfoldable pub digits_of : ℕ → List ℕ → Option ℕ
digits_of base w = if nat_lt 0 (length w) && list_all (is_digit base) w then Some (number base w) else None

-- the number after a prefix
abbrev pub number_after : List ℕ → ℕ → List ℕ → Option ℕ
number_after prefix base w =
    if nat_le (length prefix) (length w) && same_name prefix (take (length prefix) w)
    then digits_of base (drop (length prefix) w)
    else None

-- what a name of the actions means
abbrev pub of_action : Named → Meaning
of_action (n.Action a) = Act a
of_action n.Combined = Combined
of_action n.OutOfRange = OutOfRange
of_action n.Unknown = Unknown

-- a decimal number, a hexadecimal one after 0x, the name of a character, a lock letter, or the name of an action
unfoldable pub meaning : List ℕ → Meaning
meaning w = elim (digits_of 10 w) [
  | Some n ↦ Number n
  | None ↦ elim (number_after (codes "0x") 16 w) [
    | Some n ↦ Number n
    | None ↦ elim (named table w) [ Some m ↦ m | None ↦ of_action (named_of w) ]
  ]
]

-- what a token means
abbrev pub item : TokenKind → List ℕ → Item
item kinds.ParenL w = Open
item kinds.ParenR w = Close
item (kinds.Literal c) w = Value (Char c)
item kinds.Word w = Value (meaning w)
