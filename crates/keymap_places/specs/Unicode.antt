-- Whether the characters of a text are Unicode for sure. A number or a byte from 0x80 to 0xff may be a character of
-- another set: small letters of KOI8-R stand where Latin-1 has capitals.
use Rattle.std.specs.Prelude.{ℕ, Bool, false, not, ◌&&◌, ◌==◌, nat_lt, List, length}
use Rattle.std.specs.List.{list_all, list_any}
use Rattle.keymap_places.specs.Types.{TokenKind, Item, Value, Number}
use Rattle.keymap_text.specs.declared.token.TokenKind.TheVariants.{Literal}
use Rattle.keymap_text.specs.Lexical.{TokenValue}
use Rattle.keymap_text.specs.Words.{item}

-- a quoted byte from 0x80 on, which stands alone
abbrev pub is_lone : TokenKind → List ℕ → Bool
is_lone (Literal c) bytes = nat_lt 127 c && length bytes == 3
is_lone other bytes = false

-- a number that no set of 256 characters has; as a slot's it is none
abbrev pub is_above : Item → Bool
is_above (Value (Number n)) = nat_lt 255 n
is_above other = false

-- such a number, or a quoted character that is UTF-8 of two bytes or more
abbrev pub is_wide : TokenKind → List ℕ → Bool
is_wide (Literal c) bytes = nat_lt 3 (length bytes)
is_wide other bytes = is_above (item other bytes)

-- no byte stands alone, and some character is of Unicode alone
abbrev pub is_unicode : List TokenValue → Bool
is_unicode ts = list_all (λ t. not (is_lone t.kind t.bytes)) ts && list_any (λ t. is_wide t.kind t.bytes) ts
