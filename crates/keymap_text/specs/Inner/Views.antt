-- How values of the code are seen by the definitions. Mirrors the types `Front` of src/token.rt, `Place` and `Grammar`
-- of src/grammar.rt, and `Reading` of src/reading.rt.
use Rattle.std.specs.Prelude.{◌≡◌, ◌≢◌, ℕ, ◌≤◌, ◌<◌, length, Option, Some, None, Result, Ok, Err}
use Rattle.keymap_text.specs.declared.fault.TextFaultKind.{TextFaultKind}
use Rattle.keymap_text.specs.declared.fault.TextFaultKind.TheVariants.{EndInside}
use Rattle.keymap_text.specs.declared.token.Front.{Front}
use Rattle.keymap_text.specs.declared.token.Front.TheVariants as fronts
use Rattle.keymap_text.specs.Lexical as lexical
use Rattle.keymap_core.specs.declared.entry.Entry.{Entry}
use Rattle.keymap_text.specs.declared.grammar.Place.{Place}
use Rattle.keymap_text.specs.declared.grammar.Place.TheVariants as places
use Rattle.keymap_text.specs.declared.grammar.Grammar.{Grammar}
use Rattle.keymap_text.specs.declared.reading.Reading.{Reading}
use Rattle.keymap_core.specs.Accents.{AccentValue}
use Rattle.keymap_core.specs.Maps.{MapValue, undefined}
use Rattle.keymap_core.specs.Numbers.{column_count, accent_limit, pair_limit}
use Rattle.keymap_text.specs.Inner.Grammar as spec
use Rattle.keymap_text.specs.Places.{RowPlace, AtDefinition, AtCell, AtLock, AtAccentCharacter, AfterPairs, AtBase}
use Rattle.keymap_text.specs.Places.{AtResult, AtPairEnd}

abbrev pub front_view : Front → lexical.Front
front_view (fronts.Found kind n) = lexical.Found kind n
front_view (fronts.Refused f) = lexical.Refused f
front_view fronts.Unfinished = lexical.Unfinished

-- the token that was found has no more bytes than there are
abbrev pub FoundFits : Front → ℕ → Type 0
FoundFits (fronts.Found kind n) m = n ≤ m
FoundFits _ m = Unit {0}

-- a place, with the entry and the accent that are being defined
abbrev pub place_view : Place → Entry → AccentValue → spec.GrammarPlace
place_view places.Definition e a = spec.Definition
place_view (places.Cell slot i) e a = spec.CellAt slot i e
place_view (places.Lock slot) e a = spec.LockAt slot e
place_view (places.AccentCharacter i) e a = spec.AccentCharacter i
place_view (places.AfterAccent i) e a = spec.AfterAccent i a
place_view (places.PairBase i) e a = spec.PairBase i a
place_view (places.PairResult i b) e a = spec.PairResult i a b
place_view (places.PairEnd i b r) e a = spec.PairEnd i a b r

abbrev pub grammar_view : Grammar → spec.GrammarPlace
grammar_view g = place_view g.place g.entry g.accent

-- with the map so far
abbrev pub state_view : Reading → spec.GrammarState
state_view r = spec.at r.map (grammar_view r.grammar)

-- the indices that places may have
abbrev pub IsPlace : Place → AccentValue → Type 0
IsPlace places.Definition a = Unit {0}
IsPlace (places.Cell slot i) a = i < column_count
IsPlace (places.Lock slot) a = Unit {0}
IsPlace (places.AccentCharacter i) a = i < accent_limit
IsPlace (places.AfterAccent i) a = i < accent_limit
IsPlace (places.PairBase i) a = (i < accent_limit) × (length a.pairs < pair_limit)
IsPlace (places.PairResult i b) a = (i < accent_limit) × (length a.pairs < pair_limit) × (b ≢ 0)
IsPlace (places.PairEnd i b r) a = (i < accent_limit) × (length a.pairs < pair_limit) × (b ≢ 0)

-- what a step of the code did, by the step of the definitions
abbrev pub Steps : Result (Unit {0}) TextFaultKind → Result spec.GrammarState TextFaultKind → spec.GrammarState → Type 0
Steps (Ok u) r s = r ≡ Ok s
Steps (Err f) r s = r ≡ Err f

-- What the step did to something that takes definitions: it left d, which shows the map of the definitions' step, and
-- the text stands at p.
abbrev pub StepsInto : {D : Type 0} → (D → MapValue → Type 0) → D → Result (Unit {0}) TextFaultKind
    → Result spec.GrammarState TextFaultKind → spec.GrammarPlace → Type 0
StepsInto shows d (Ok u) r p = (m : MapValue) × shows d m × (r ≡ Ok (spec.at m p))
StepsInto shows d (Err f) r p = r ≡ Err f

-- What the end of the text did to it: it left d, which shows the map of the text.
abbrev pub EndsInto : {D : Type 0} → (D → MapValue → Type 0) → D → Result (Unit {0}) TextFaultKind → Option MapValue
    → Type 0
EndsInto shows d (Ok u) r = (m : MapValue) × shows d m × (r ≡ Some m)
EndsInto shows d (Err f) r = (r ≡ None) × (f ≡ EndInside)

-- where the first token of a definition leads
abbrev pub Leads : Result Place TextFaultKind → Result spec.GrammarPlace TextFaultKind → Type 0
Leads (Ok p) r = ((a : AccentValue) → r ≡ Ok (place_view p undefined a)) × ((a : AccentValue) → IsPlace p a)
Leads (Err f) r = r ≡ Err f

-- a place without what it holds of the map
abbrev pub place_of : spec.GrammarPlace → RowPlace
place_of spec.Definition = AtDefinition
place_of (spec.CellAt slot i e) = AtCell i
place_of (spec.LockAt slot e) = AtLock
place_of (spec.AccentCharacter i) = AtAccentCharacter
place_of (spec.AfterAccent i a) = AfterPairs (length a.pairs)
place_of (spec.PairBase i a) = AtBase (length a.pairs)
place_of (spec.PairResult i a b) = AtResult (length a.pairs)
place_of (spec.PairEnd i a b r) = AtPairEnd (length a.pairs)
