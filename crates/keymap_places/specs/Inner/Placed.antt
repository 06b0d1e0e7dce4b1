-- Where definitions begin among tokens. Mirrors `take` and `token_from` of src/placed.rt.
use Rattle.std.specs.Prelude.{◌≡◌, ◌<◌, ◌≤◌, ℕ, zero, suc, ◌+◌, Bool, true, false, if◌then◌else◌, List, [], ◌∷◌}
use Rattle.std.specs.Prelude.{length, drop, Option, Some, None}
use Rattle.keymap_places.specs.Types.{Defined, Slot, Accent, Placed}
use Rattle.keymap_places.specs.Types.{TokenKind, ParenL, Word, Token}
use Rattle.keymap_text.specs.Tokens.{token_view}
use Rattle.keymap_places.specs.Placed.{begins, span_of}
use Rattle.keymap_text.specs.Lexical.{TokenValue, tokens_after}
use Rattle.keymap_text.specs.Meaning.{item_of, list_of}

-- how many tokens stand behind its first one, until a pair or the next definition may begin
abbrev pub behind : Defined → ℕ
behind (Slot s) = 9
behind (Accent i) = 1

abbrev pub is_open : TokenKind → Bool
is_open ParenL = true
is_open other = false

-- where definitions begin, where the first tokens belong to what has begun and n stand before them
unfoldable pub begun : ℕ → ℕ → List TokenValue → List Placed
begun left n [] = []
begun (suc left) n (t ∷ ts) = begun left (n + 1) ts
begun zero n (t ∷ ts) =
    if is_open t.kind then begun 3 (n + 1) ts
    else elim (begins (item_of t)) [
      | Some what ↦ record { what = what; first = n } ∷ begun (behind what) (n + 1) ts
      | None ↦ begun 0 (n + 1) ts
    ]

-- the tokens of a text from a place on
abbrev pub tokens_from : List ℕ → ℕ → List TokenValue
tokens_from text at = list_of (tokens_after 0 at (drop at text))

-- The token is the first one from the place on, and the others stand behind it.
pub record ComesFirst (text : List ℕ) (at : ℕ) (t : Token) : Type 0 where
  pub ends : at < t.span.end
  pub within : t.span.end ≤ length text
  pub short : t.kind ≡ Word → length t.slice.now ≤ 32
  pub span : span_of (token_view text t) ≡ t.span
  pub others : tokens_from text at ≡ token_view text t ∷ tokens_from text t.span.end

abbrev pub ComesNext : List ℕ → ℕ → Option Token → Type 0
ComesNext text at (Some t) = ComesFirst text at t
ComesNext text at None = tokens_from text at ≡ []
