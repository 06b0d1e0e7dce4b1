-- What the check reports.
use Rattle.std.specs.Prelude.{◌≡◌, ◌↔◌, Bool, true, false, List, [], map, slice_index_or}
use Rattle.keymap_check.specs.Types.{Meta, Lock, Holding, Bearer, Nobody, Throughout, Sole, Several, Finding}
use Rattle.keymap_core.specs.declared.action.Lock.TheVariants.{Scroll}
use Rattle.keymap_core.specs.declared.action.Holding.TheVariants as holding
use Rattle.keymap_core.specs.Actions.{holdings, locks, holding_index, lock_index}
use Rattle.keymap_core.specs.Maps.{MapValue}
use Rattle.keymap_core.specs.Bearers.{NobodyBears, BearsThroughout, BearsNotThroughout, SeveralBear}
use Rattle.console_core.specs.Headline.{IsSafe, IsSteady}
use Rattle.keymap_check.specs.Computed.{bearer_of, is_steady, findings_of}
use Rattle.keymap_check.specs.Findings.{AreFindings}

-- which key bears the holding action
abbrev pub IsBearer : MapValue → Holding → Bearer → Type 0
IsBearer m a Nobody = NobodyBears m a
IsBearer m a (Throughout k) = BearsThroughout m k a
IsBearer m a (Sole k) = BearsNotThroughout m k a
IsBearer m a Several = SeveralBear m a

-- whether the modifier or lock has a part in which cell is looked up
abbrev pub picks_a_cell : Holding → Bool
picks_a_cell (holding.Mod Meta) = false
picks_a_cell (holding.Lock Scroll) = false
picks_a_cell a = true

-- the keys that make the map refused, the bearer of each holding action, and which locks are steady
pub record ReportValue : Type 0 where
  pub findings : List Finding
  pub bearers : List Bearer
  pub steady : List Bool

abbrev pub IsAccepted : ReportValue → Type 0
IsAccepted r = r.findings ≡ []

abbrev pub bearer_in : ReportValue → Holding → Bearer
bearer_in r a = slice_index_or r.bearers (holding_index a) Nobody

-- nobody bears the action, or one key alone does, throughout
abbrev pub is_plain_bearer : Bearer → Bool
is_plain_bearer Nobody = true
is_plain_bearer (Throughout k) = true
is_plain_bearer (Sole k) = false
is_plain_bearer Several = false

-- nobody, or one key throughout, bears each modifier and lock that picks a cell: all but meta and slock
abbrev pub HasPlainBearers : ReportValue → Type 0
HasPlainBearers r = (a : Holding) → picks_a_cell a ≡ true → is_plain_bearer (bearer_in r a) ≡ true

abbrev pub is_steady_in : ReportValue → Lock → Bool
is_steady_in r l = slice_index_or r.steady (lock_index l) false

-- the report on a map
abbrev pub report_of : MapValue → ReportValue
report_of m = record {
  findings = findings_of m;
  bearers = map (bearer_of m) holdings;
  steady = map (is_steady m) locks;
}

-- what is computed of a map is what is said of it
abbrev pub FindingsAreComputed : Type 0
FindingsAreComputed = (m : MapValue) → AreFindings m (findings_of m)

abbrev pub BearersAreComputed : Type 0
BearersAreComputed = (m : MapValue) (a : Holding) → IsBearer m a (bearer_of m a)

abbrev pub SteadyLocksAreComputed : Type 0
SteadyLocksAreComputed = (m : MapValue) (l : Lock) → (is_steady m l ≡ true) ↔ IsSteady m l

abbrev pub NoFindingsExactlyIfSafe : Type 0
NoFindingsExactlyIfSafe = (m : MapValue) → (findings_of m ≡ []) ↔ IsSafe m
