-- Texts with the same tokens, and so with the same definitions.
use Rattle.std.specs.Prelude.{◌≡◌, ◌<◌, List, map, AllPairs}
use Rattle.std.specs.Prelude.{ℕ}
use Rattle.keymap_core.specs.Maps.{MapValue}
use Rattle.keymap_places.specs.Placed.{Row, IsSpelledBy, places_of}
use Rattle.keymap_places.specs.Types.{TokenKind}
use Rattle.keymap_text.specs.Lexical.{TokenValue}
use Rattle.keymap_text.specs.Meaning.{tokens}

abbrev pub kind_and_bytes : TokenValue → TokenKind × List ℕ
kind_and_bytes t = (t.kind, t.bytes)

-- Each token has the kind and the bytes of the one in its place.
abbrev pub HaveSameTokens : List ℕ → List ℕ → Type 0
HaveSameTokens text other = map kind_and_bytes (tokens text) ≡ map kind_and_bytes (tokens other)

-- As many tokens stand before each definition of the one text as before that of the other.
abbrev pub SameTokensSameDefinitions : Type 0
SameTokensSameDefinitions =
    (text other : List ℕ) (m n : MapValue) (rows others : List Row) → HaveSameTokens text other
    → IsSpelledBy text m rows → IsSpelledBy other n others → places_of rows ≡ places_of others

-- Each token begins before those that follow it.
abbrev pub TokensAreInOrder : Type 0
TokensAreInOrder = (text : List ℕ) → AllPairs (λ (s t : TokenValue). s.start < t.start) (tokens text)
