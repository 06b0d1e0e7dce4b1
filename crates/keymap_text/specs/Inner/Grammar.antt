-- The reader's machine over tokens: the map so far, and the part of a definition that it has read. Mirrors
-- `Grammar::accept` of src/grammar.rt and the functions of the places; what a text means is said in Meaning.
use Rattle.std.specs.Prelude.{ℕ, ◌+◌, if◌then◌else◌, ◌==◌, nat_lt, [], ◌∷◌, ◌++◌, length, set, Option, Some, None}
use Rattle.std.specs.Prelude.{Result, Ok, Err}
use Rattle.keymap_core.specs.Accents.{AccentValue}
use Rattle.keymap_core.specs.Maps.{MapValue, undefined, with_entry, with_accent}
use Rattle.keymap_core.specs.Numbers.{slot_limit, pair_limit}
use Rattle.keymap_core.specs.declared.entry.Entry.{Entry}
use Rattle.keymap_core.specs.declared.entry.Cell.{Cell}
use Rattle.keymap_text.specs.declared.fault.TextFaultKind.{TextFaultKind}
use Rattle.keymap_text.specs.declared.fault.TextFaultKind.TheVariants as faults
use Rattle.keymap_text.specs.declared.words.Meaning.TheVariants.{Number, Act}
use Rattle.keymap_text.specs.declared.words.Item.{Item}
use Rattle.keymap_text.specs.declared.words.Item.TheVariants.{Open, Close, Value}
use Rattle.keymap_text.specs.Items.{refusal, character, cell, lock, accent_index}

abbrev pub empty_map : MapValue
empty_map = record { entries = []; accents = [] }

-- Where a text stands in its row of definitions, with the part of a definition that it is in.
pub data GrammarPlace : Type 0 where
  Definition : GrammarPlace
  CellAt : ℕ → ℕ → Entry → GrammarPlace
  LockAt : ℕ → Entry → GrammarPlace
  AccentCharacter : ℕ → GrammarPlace
  AfterAccent : ℕ → AccentValue → GrammarPlace
  PairBase : ℕ → AccentValue → GrammarPlace
  PairResult : ℕ → AccentValue → ℕ → GrammarPlace
  PairEnd : ℕ → AccentValue → ℕ → ℕ → GrammarPlace

-- the first token of a definition
abbrev pub first_of : Item → Result GrammarPlace TextFaultKind
first_of (Value (Number n)) = if nat_lt n slot_limit then Ok (CellAt n 0 undefined) else Err faults.KeyTooLarge
first_of (Value (Act a)) = elim (accent_index a) [ Some i ↦ Ok (AccentCharacter i) | None ↦ Err faults.Unexpected ]
first_of other = Err (refusal other)

pub record GrammarState : Type 0 where
  pub map : MapValue
  pub place : GrammarPlace

abbrev pub at : MapValue → GrammarPlace → GrammarState
at m p = record { map = m; place = p }

infixl 10 ◌>>=◌
abbrev pub ◌>>=◌ : {A B : Type 0} → Result A TextFaultKind → (A → Result B TextFaultKind) → Result B TextFaultKind
(Ok x) >>= f = f x
(Err e) >>= f = Err e

abbrev pub with_cell : Entry → ℕ → Cell → Entry
with_cell e i c = record { cells = set e.cells i c; flag = e.flag }

abbrev pub after_cell : ℕ → ℕ → Entry → GrammarPlace
after_cell slot i e = if i == 7 then LockAt slot e else CellAt slot (i + 1) e

abbrev pub with_pair : AccentValue → ℕ → ℕ → AccentValue
with_pair a b r = record { own = a.own; pairs = a.pairs ++ (b, r) ∷ [] }

abbrev pub after_base : MapValue → ℕ → AccentValue → ℕ → Result GrammarState TextFaultKind
after_base m i a c = if c == 0 then Err faults.ZeroBase else Ok (at m (PairResult i a c))

abbrev pub step : MapValue → GrammarPlace → Item → Result GrammarState TextFaultKind
step m Definition t = do
  p ← first_of t
  Ok (at m p)
step m (CellAt slot i e) t = do
  c ← cell t
  Ok (at m (after_cell slot i (with_cell e i c)))
step m (LockAt slot e) t = do
  f ← lock t
  Ok (at (with_entry m slot (record { cells = e.cells; flag = f })) Definition)
step m (AccentCharacter i) t = do
  c ← character t
  Ok (at m (AfterAccent i (record { own = c; pairs = [] })))
step m (AfterAccent i a) Open =
    if nat_lt (length a.pairs) pair_limit then Ok (at m (PairBase i a)) else Err faults.TooManyPairs
step m (AfterAccent i a) t = do
  p ← first_of t
  Ok (at (with_accent m i a) p)
step m (PairBase i a) t = do
  c ← character t
  after_base m i a c
step m (PairResult i a b) t = do
  c ← character t
  Ok (at m (PairEnd i a b c))
step m (PairEnd i a b r) Close = Ok (at m (AfterAccent i (with_pair a b r)))
step m (PairEnd i a b r) t = Err (refusal t)

unfoldable pub accept : GrammarState → Item → Result GrammarState TextFaultKind
accept s t = step s.map s.place t

-- the map, where the text may end here
unfoldable pub at_end : GrammarState → Option MapValue
at_end s = elim s.place [
  | Definition ↦ Some s.map
  | AfterAccent i a ↦ Some (with_accent s.map i a)
  | _ ↦ None
]

abbrev pub start : GrammarState
start = at empty_map Definition
