-- What is wanted at the place where a text goes wrong, and the definition that the place is in.
use Rattle.std.specs.Prelude.{ℕ, List, [], ◌∷◌, Option, Some, None, Ok, Err}
use Rattle.keymap_places.specs.declared.wanted.Wanted.{Wanted}
use Rattle.keymap_places.specs.declared.wanted.Wanted.TheVariants as wants
use Rattle.keymap_places.specs.declared.wanted.DefinitionStart.{DefinitionStart}
use Rattle.keymap_places.specs.declared.wanted.FaultPlace.{FaultPlace}
use Rattle.keymap_places.specs.Types.{Item}
use Rattle.keymap_text.specs.Lexical.{TokenValue}
use Rattle.keymap_text.specs.Meaning.{item_of}
use Rattle.keymap_places.specs.Placed.{begins, span_of}
use Rattle.keymap_text.specs.Places.{RowPlace, AtDefinition, AtCell, AtLock, AtAccentCharacter, AfterPairs, AtBase}
use Rattle.keymap_text.specs.Places.{AtResult, AtPairEnd, next}

abbrev pub row_place : Wanted → RowPlace
row_place wants.Definition = AtDefinition
row_place (wants.Cell n) = AtCell n
row_place wants.Lock = AtLock
row_place wants.AccentCharacter = AtAccentCharacter
row_place (wants.Pair n) = AfterPairs n
row_place (wants.Base n) = AtBase n
row_place (wants.Composed n) = AtResult n
row_place (wants.PairEnd n) = AtPairEnd n

abbrev pub fault_place_view : FaultPlace → RowPlace × Option DefinitionStart × ℕ
fault_place_view f = (row_place f.wanted, f.definition, f.behind)

-- the definition that a token at this offset begins, or else the one that has begun before it
abbrev pub definition_by : Option DefinitionStart → Item → ℕ → Option DefinitionStart
definition_by b t offset = elim (begins t) [ Some what ↦ Some (record { what = what; offset = offset }) | None ↦ b ]

-- The definition that has begun, and hasn't ended, behind a token that is accepted at a place. It may begin where one
-- is wanted, and ends behind its lock letter.
abbrev pub definition_behind : RowPlace → Option DefinitionStart → Item → ℕ → Option DefinitionStart
definition_behind AtDefinition b t offset = definition_by b t offset
definition_behind (AfterPairs n) b t offset = definition_by b t offset
definition_behind AtLock b t offset = None
definition_behind _ b t offset = b

-- the place before the first token that is refused, or behind the last one, the definition that it is in, and the
-- offset behind the token before it
unfoldable pub first_refused : RowPlace → Option DefinitionStart → ℕ → List TokenValue
    → RowPlace × Option DefinitionStart × ℕ
first_refused p d behind [] = (p, d, behind)
first_refused p d behind (t ∷ ts) = elim (next p (item_of t)) [
  | Ok p' ↦ first_refused p' (definition_behind p d (item_of t) t.start) (span_of t).end ts
  | Err f ↦ (p, d, behind)
]
