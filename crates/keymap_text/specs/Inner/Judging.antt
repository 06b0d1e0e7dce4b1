-- What the machine over tokens makes of a whole text: a map, or a fault. Mirrors `Scanner::feed` and `finish` of
-- src/scanner.rt, run over a text; Meaning says the same in words of the text.
use Rattle.std.specs.Prelude.{ℕ, Bool, false, not, List, Option, Some, None, Ok, Err}
use Rattle.keymap_text.specs.Types.{TextFaultKind}
use Rattle.keymap_text.specs.declared.fault.TextFaultKind.TheVariants as faults
use Rattle.keymap_text.specs.Lexical.{Tokens, Ends, Stops, Then, tokens_after}
use Rattle.keymap_text.specs.Meaning.{is_settled, is_end_inside}
use Rattle.keymap_text.specs.Words.{item}
use Rattle.keymap_core.specs.Maps.{MapValue}
use Rattle.keymap_text.specs.Inner.Grammar.{GrammarState, accept, at_end, start}

-- A map, or a fault with its place. An early fault stays whatever follows the text.
pub data Verdict : Type 0 where
  Spelled : MapValue → Verdict
  Faulty : TextFaultKind → ℕ → Bool → Verdict

abbrev pub ended : Option MapValue → ℕ → Verdict
ended (Some m) q = Spelled m
ended None q = Faulty faults.EndInside q false

unfoldable pub judge : GrammarState → Tokens → Verdict
judge s (Ends q) = ended (at_end s) q
judge s (Stops f q) = Faulty f q (not (is_end_inside f))
judge s (Then t ts) = elim (accept s (item t.kind t.bytes)) [
  | Ok s' ↦ judge s' ts
  | Err f ↦ Faulty f t.start (is_settled t)
]

-- the verdict on a text
abbrev pub verdict : List ℕ → Verdict
verdict bytes = judge start (tokens_after 0 0 bytes)
