-- What a survey tells of a map. Mirrors `Survey` of src/survey.rt and `Kind::is_holding` of src/kind.rt.
use Rattle.std.specs.Prelude.{◌≡◌, ℕ, ◌<◌, Bool, true, false, List, length, slice_index_or, is_some}
use Rattle.keymap_core.specs.Maps.{MapValue}
use Rattle.keymap_core.specs.Numbers.{key_count}
use Rattle.keymap_check.specs.Types.{Kind}
use Rattle.keymap_check.specs.declared.kind.Kind.TheVariants as kind
use Rattle.keymap_check.specs.Cells.{place_count, first_place}

-- only modifiers and locks are of the kind
abbrev pub is_holding_kind : Kind → Bool
is_holding_kind kind.AnyHolding = true
is_holding_kind (kind.Holding a) = true
is_holding_kind (kind.Of g) = true
is_holding_kind _ = false

-- how many cells each key has, and for each key whether some of them are modifiers or locks
pub record SurveyValue : Type 0 where
  pub places : ℕ
  pub holding : List Bool

-- it is told of the keys below n whether they have a modifier or lock
abbrev pub TellsBelow : MapValue → List Bool → ℕ → Type 0
TellsBelow m told n = (k : ℕ) → k < n → slice_index_or told k false ≡ is_some (first_place m kind.AnyHolding k)

-- the survey is one of this map
pub record IsSurvey (m : MapValue) (s : SurveyValue) : Type 0 where
  pub places : s.places ≡ place_count m
  pub holding : (length s.holding ≡ key_count) × TellsBelow m s.holding key_count
