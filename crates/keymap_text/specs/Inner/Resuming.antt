-- What a reader that stands in a text makes of the bytes to come. Mirrors `Reading` of src/reading.rt.
use Rattle.keymap_core.specs.Maps.{MapValue}
use Rattle.std.specs.Prelude.{◌≡◌, ℕ, ◌+◌, ◌≤◌, Bool, true, List, ◌++◌, length, drop, Result, Ok, Err}
use Rattle.std.specs.Prelude.{◌==◌, count_by}
use Rattle.keymap_text.specs.Types.{TextFault}
use Rattle.keymap_text.specs.declared.reading.Reading.{Reading}
use Rattle.keymap_text.specs.Lexical.{tokens_after}
use Rattle.keymap_text.specs.Meaning.{line}
use Rattle.keymap_text.specs.Inner.Grammar.{GrammarState}
use Rattle.keymap_text.specs.Inner.Judging.{judge, Verdict, Spelled, Faulty}
use Rattle.keymap_text.specs.Inner.Scanning.{IsOpen}
use Rattle.keymap_text.specs.Inner.Views.{state_view, IsPlace}

abbrev pub resume : Reading → List ℕ → Verdict
resume r x = judge (state_view r) (tokens_after 0 r.offset (r.pending.items ++ x))

pub record IsReader (r : Reading) : Type 0 where
  pub place : IsPlace r.grammar.place r.grammar.accent
  pub tail : IsOpen r.pending.items
  pub low : r.line ≤ r.offset + 1

-- What a call answers, by the verdict.
abbrev pub Says : Result MapValue TextFault → Verdict → Type 0
Says (Ok m) v = v ≡ Spelled m
Says (Err e) v = (early : Bool) × (v ≡ Faulty e.kind e.offset early)

-- A fault at what is pending, or after it.
pub record IsFaultOfPending (e : TextFault) (old : Reading) : Type 0 where
  pub line : e.line ≡ old.line
  pub from : old.offset ≤ e.offset
  pub to : e.offset ≤ old.offset + length old.pending.items

-- The bytes b stand before what is to come, and none of them from the first pending one on is a line feed.
pub record Lined (r : Reading) (b : List ℕ) : Type 0 where
  pub fed : r.offset + length r.pending.items ≡ length b
  pub line : r.line ≡ line b r.offset
  pub none : count_by (λ c. c == 10) (drop r.offset b) ≡ 0

-- What taking the bytes w did, whatever follows.
pub record Moves (old new : Reading) (w : List ℕ) : Type 0 where
  pub takes : (x : List ℕ) → resume old (w ++ x) ≡ resume new x
  pub reader : IsReader new
  pub fed : new.offset + length new.pending.items ≡ old.offset + length old.pending.items + length w
  pub line : (b : List ℕ) → Lined old b → Lined new (b ++ w)

-- The bytes have a fault that stands whatever follows them.
pub record Breaks (old : Reading) (bytes : List ℕ) (e : TextFault) : Type 0 where
  pub takes : (x : List ℕ) → resume old (bytes ++ x) ≡ Faulty e.kind e.offset true
  pub inside : e.offset ≤ old.offset + length old.pending.items + length bytes
  pub line : (b : List ℕ) → Lined old b → e.line ≡ line (b ++ bytes) e.offset

abbrev pub Feeds : Result (Unit {0}) TextFault → Reading → Reading → List ℕ → Type 0
Feeds (Ok u) old new bytes = Moves old new bytes
Feeds (Err e) old new bytes = Breaks old bytes e

-- Bytes that show no whole token were kept as what is pending: no text tells one from the other.
pub record Keeps (old new : Reading) (tail : List ℕ) : Type 0 where
  pub map : new.map ≡ old.map
  pub grammar : new.grammar ≡ old.grammar
  pub line : new.line ≡ old.line
  pub still : IsOpen new.pending.items
  pub from : old.offset ≤ new.offset
  pub fed : new.offset + length new.pending.items ≡ old.offset + length tail
  pub same : (s : GrammarState) (x : List ℕ) → judge s (tokens_after 0 old.offset (tail ++ x))
      ≡ judge s (tokens_after 0 new.offset (new.pending.items ++ x))
