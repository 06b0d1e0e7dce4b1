-- What taking bytes in front of a text does to what is made of the text. Mirrors src/scanner.rt.
use Rattle.std.specs.Prelude.{◌≡◌, ℕ, Bool, ◌+◌, ◌<◌, ◌≤◌, true, false, List, [], ◌∷◌, ◌++◌, length, drop, Result}
use Rattle.std.specs.Prelude.{Ok, Err, ◌⊎◌}
use Rattle.keymap_core.specs.Maps.{MapValue}
use Rattle.keymap_text.specs.Types.{TextFaultKind, Item, Word}
use Rattle.keymap_text.specs.declared.grammar.Grammar.{Grammar}
use Rattle.keymap_text.specs.declared.scanner.Stop.{Stop}
use Rattle.keymap_text.specs.Lexical.{tokens_after, TokenValue, Then, leading, stays_on_line, front_of, Found}
use Rattle.keymap_text.specs.Lexical.{Unfinished}
use Rattle.keymap_text.specs.Meaning.{is_settled}
use Rattle.keymap_text.specs.Words.{item}
use Rattle.keymap_text.specs.Inner.Grammar.{GrammarState, GrammarPlace, CellAt, at, after_cell, at_end}
use Rattle.keymap_text.specs.Inner.Judging.{judge, verdict, ended, Faulty, Spelled}
use Rattle.keymap_text.specs.Inner.Views.{grammar_view, IsPlace}

-- What taking the first n of some bytes did: the others are judged from the new state, whatever follows.
pub record Advances (old new : GrammarState) (rest : List ℕ) (n : ℕ) : Type 0 where
  pub takes : (q : ℕ) (x : List ℕ)
      → judge old (tokens_after 0 q (rest ++ x)) ≡ judge new (tokens_after 0 (q + n) (drop n rest ++ x))
  pub inside : n ≤ length rest

-- The bytes have a fault behind the first n of them, whatever follows.
pub record Refuses (old : GrammarState) (rest : List ℕ) (f : TextFaultKind) (n : ℕ) : Type 0 where
  pub takes : (q : ℕ) (x : List ℕ) → judge old (tokens_after 0 q (rest ++ x)) ≡ Faulty f (q + n) true
  pub inside : n ≤ length rest

-- What taking bytes in front did to what takes the definitions: so many were taken, or they have a fault.
abbrev pub Took : {D : Type 0} → (D → MapValue → Type 0) → D → Result ℕ Stop → GrammarState → GrammarPlace → List ℕ
    → Type 0
Took shows d (Ok n) s p rest = (m : MapValue) × shows d m × Advances s (at m p) rest n
Took shows d (Err e) s p rest = Refuses s rest e.kind e.at

-- whatever map it showed
pub record Takes {D : Type 0} (shows : D → MapValue → Type 0) (d d' : D) (r : Result ℕ Stop) (g g' : Grammar)
    (rest : List ℕ) : Type 0 where
  pub took : (m : MapValue) → shows d m → Took shows d' r (at m (grammar_view g)) (grammar_view g') rest

-- no more bytes were taken than there are, and the text stands at a place
abbrev pub Leaves : Result ℕ Stop → Grammar → List ℕ → Type 0
Leaves (Ok n) g rest = (n ≤ length rest) × IsPlace g.place g.accent
Leaves (Err e) g rest = e.at ≤ length rest

-- What was done with a last word: behind it the text ends, or it is refused, or more bytes were wanted.
abbrev pub TookLast : {D : Type 0} → (D → MapValue → Type 0) → D → Result (Unit {0}) Stop → GrammarState → GrammarPlace
    → List ℕ → Type 0
TookLast shows d (Ok u) s p tail = (m : MapValue) × shows d m
    × ((q : ℕ) → judge s (tokens_after 0 q tail) ≡ ended (at_end (at m p)) (q + length tail))
TookLast shows d (Err e) s p tail = (e.at ≤ length tail)
    × ((q : ℕ) → judge s (tokens_after 0 q tail) ≡ Faulty e.kind (q + e.at) false)

abbrev pub TakesLast : {D : Type 0} → (D → MapValue → Type 0) → D → D → Result (Unit {0}) Stop → Grammar → Grammar
    → List ℕ → Type 0
TakesLast shows d d' r g g' tail =
    (m : MapValue) → shows d m → TookLast shows d' r (at m (grammar_view g)) (grammar_view g') tail

-- What the end of the text did behind these bytes: it shows the map of the text, or the text has a fault there.
abbrev pub Ended : {D : Type 0} → (D → MapValue → Type 0) → D → Result (Unit {0}) Stop → GrammarState → List ℕ → Type 0
Ended shows d (Ok u) s tail = (m : MapValue) × shows d m × ((q : ℕ) → judge s (tokens_after 0 q tail) ≡ Spelled m)
Ended shows d (Err e) s tail = (e.at ≤ length tail)
    × ((q : ℕ) → judge s (tokens_after 0 q tail) ≡ Faulty e.kind (q + e.at) false)

abbrev pub Ends : {D : Type 0} → (D → MapValue → Type 0) → D → D → Result (Unit {0}) Stop → Grammar → List ℕ → Type 0
Ends shows d d' r g tail = (m : MapValue) → shows d m → Ended shows d' r (at m (grammar_view g)) tail

-- What taking a whole text did: it shows the map that the text spells, or the text has a fault.
abbrev pub Answers : {D : Type 0} → (D → MapValue → Type 0) → D → Result (Unit {0}) Stop → List ℕ → Type 0
Answers shows d (Ok u) text = (m : MapValue) × shows d m × (verdict text ≡ Spelled m)
Answers shows d (Err e) text = (early : Bool) × (verdict text ≡ Faulty e.kind e.at early)

-- A whole token of n bytes, which stands for i, is in front, whatever follows.
pub record Fronts (rest : List ℕ) (i : Item) (n : ℕ) : Type 0 where
  pub token : ℕ → List ℕ → TokenValue
  pub splits : (q : ℕ) (x : List ℕ)
      → tokens_after 0 q (rest ++ x) ≡ Then (token q x) (tokens_after 0 (q + n) (drop n rest ++ x))
  pub item : (q : ℕ) (x : List ℕ) → item (token q x).kind (token q x).bytes ≡ i
  pub start : (q : ℕ) (x : List ℕ) → (token q x).start ≡ q
  pub settled : (q : ℕ) (x : List ℕ) → is_settled (token q x) ≡ true
  pub some : 0 < n
  pub inside : n ≤ length rest

-- What was done with the cell of this index: it was taken with the blanks before it, n bytes together, or nothing was.
pub record TookCell (n : ℕ) (old new : Grammar) (i : ℕ) (rest : List ℕ) : Type 0 where
  pub none : n ≡ 0 → new ≡ old
  pub some : 0 < n → (m : MapValue) (slot : ℕ)
      → Advances (at m (CellAt slot i old.entry)) (at m (after_cell slot i new.entry)) rest n

-- The bytes show no whole token: there are none, or they end in the comment, the word or the quoted character that
-- they begin with.
abbrev pub IsOpen : List ℕ → Type 0
IsOpen [] = Unit {0}
IsOpen (c ∷ bytes) = ((c ≡ 35) × (leading stays_on_line bytes ≡ length bytes))
    ⊎ ((front_of c bytes ≡ Found Word (length bytes)) ⊎ (front_of c bytes ≡ Unfinished))
