-- What the search for a token answers, in the words of Lexical.
use Rattle.std.specs.Prelude.{ℕ, List, drop, Option, Some, None, Result, Ok, Err}
use Rattle.keymap_text.specs.Types.{TextFaultKind, TextFault, Token}
use Rattle.keymap_text.specs.Lexical as lexical

abbrev pub token_view : List ℕ → Token → lexical.TokenValue
token_view text t =
    record { kind = t.kind; bytes = t.slice.now; start = t.span.start; last = lexical.is_empty (drop t.span.end text) }

abbrev pub result_view : List ℕ → Result (Option Token) TextFault
    → Result (Option lexical.TokenValue) (TextFaultKind × ℕ)
result_view text (Ok None) = Ok None
result_view text (Ok (Some t)) = Ok (Some (token_view text t))
result_view text (Err f) = Err (f.kind, f.offset)
