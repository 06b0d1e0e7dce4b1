-- What is said of a text: its faults, or its diagnostics in their order and what some of them tell of.
use Rattle.std.specs.Prelude.{◌≡◌, ℕ, ◌<◌, List, ◌++◌, length, map, Option, Some, None, IsPermutation, IsSortedByKey}
use Rattle.std.specs.List.Sorted.{IsStableByKey}
use Rattle.std.specs.Option.{option_cmp}
use Rattle.std.specs.Ordering.{nat_cmp}
use Rattle.keymap_core.specs.Maps.{MapValue}
use Rattle.keymap_lint.specs.Types.{Sticking, Finding, Span, Placed, CellInForce, Diagnostic, Diagnostics, Lint, Faulty}
use Rattle.keymap_lint.specs.Types.{Spelled as IsSpelled}
use Rattle.console_states.specs.Sticking.{IsAnswer}
use Rattle.keymap_check.specs.Findings.{AreFindings}
use Rattle.keymap_text.specs.Meaning.{Spells, tokens}
use Rattle.keymap_places.specs.Placed.{Row, IsSpelledBy, places_of, span_of}
use Rattle.keymap_lint.specs.Faults.{AreFaults, fault_limit}
use Rattle.keymap_lint.specs.Spelled.{Spelled, cells_in_force}
use Rattle.keymap_lint.specs.Kinds.{no_key, no_shift, mixed_keys, half_defined, defined_again, dead_key}
use Rattle.keymap_lint.specs.Kinds.{zero_accents, pairs_again, unused_half, bare_digits, missing_slots, nul_keys}
use Rattle.keymap_lint.specs.Kinds.{missing_accents, unused_slots}
use Rattle.keymap_lint.specs.Letters.{gap, gaps}
use Rattle.keymap_lint.specs.Alphabets.{all_twice, lost_letters, no_control}
use Rattle.keymap_lint.specs.Directives.{told}
use Rattle.keymap_lint.specs.Severities.{never_sticks}
use Rattle.keymap_lint.specs.Octal.{all_octal}
use Rattle.keymap_lint.specs.Typed.{AreTold, cannot_type}
use Rattle.keymap_lint.specs.Shifted.{all_exchanged, no_caps, small_slots}

-- what is said of a text that spells a map, kind by kind: of its keys, its definitions and dead keys, and the rest
abbrev pub of_keys : Spelled → List CellInForce → List Finding → List ℕ → List Diagnostic
of_keys t cells findings untyped =
    (((no_key t.map ++ cannot_type untyped) ++ no_shift t.map) ++ mixed_keys t findings)
    ++ half_defined t cells findings

abbrev pub of_letters : Spelled → List CellInForce → List Diagnostic
of_letters t cells =
    ((((gap t ++ all_exchanged t) ++ all_twice t) ++ no_control t cells) ++ no_caps t) ++ all_octal t cells

abbrev pub of_definitions : Spelled → List CellInForce → List Diagnostic
of_definitions t cells = ((defined_again t ++ of_letters t cells) ++ dead_key t cells) ++ zero_accents t cells

abbrev pub of_rest : Spelled → List CellInForce → List Diagnostic
of_rest t cells = (pairs_again t ++ unused_half t) ++ bare_digits t cells

abbrev pub all_of : Spelled → List CellInForce → List Finding → List ℕ → List Diagnostic
all_of t cells findings untyped = (of_keys t cells findings untyped ++ of_definitions t cells) ++ of_rest t cells

-- The diagnostics in another order: first those without a place, then by their place; those of one place in the order
-- in which they were.
pub record AreOrdered (found ordered : List Diagnostic) : Type 0 where
  pub same : IsPermutation found ordered
  pub in_order : IsSortedByKey (λ (d : Diagnostic). d.place) (option_cmp nat_cmp) ordered
  pub stable : IsStableByKey (λ (d : Diagnostic). d.place) (option_cmp nat_cmp) found ordered

-- the search runs only where the check has findings
abbrev pub IsSearched : MapValue → List Finding → Option Sticking → Type 0
IsSearched m findings None = length findings ≡ 0
IsSearched m findings (Some a) = (0 < length findings) × IsAnswer m a

-- The diagnostics of a text with these cells in force and these findings, as its directives leave them, and what they
-- tell of.
pub record AreOf (t : Spelled) (cells : List CellInForce) (findings : List Finding) (l : Diagnostics) : Type 0 where
  pub list : AreOrdered (told t.text t (never_sticks l.sticking) (all_of t cells findings l.untyped.items)) l.list.items
  pub untyped : AreTold t.map l.untyped.items
  pub slots : l.missing_slots.items ≡ missing_slots t
  pub keys : l.nul_keys.items ≡ nul_keys t findings
  pub gaps : l.gaps.items ≡ gaps t
  pub lost : l.lost_letters.items ≡ lost_letters t
  pub small : l.small_slots.items ≡ small_slots t
  pub accents : l.missing_accents.items ≡ missing_accents t cells
  pub unused : l.unused_slots.items ≡ unused_slots t
  pub sticking : IsSearched t.map findings l.sticking

-- the diagnostics of a text that spells a map, with the findings of the check
abbrev pub AreOfSpelled : Spelled → Diagnostics → Type 0
AreOfSpelled t l =
    (findings : List Finding) × AreFindings t.map findings × AreOf t (cells_in_force t) findings l

-- what is spelled: the definitions of rows, the places of tokens, and the map
abbrev pub spelled_with : List ℕ → List Placed → List Span → MapValue → Spelled
spelled_with text definitions spans m = record { text = text; definitions = definitions; spans = spans; map = m }

abbrev pub spelled_by : List ℕ → MapValue → List Row → Spelled
spelled_by text m rows = spelled_with text (places_of rows) (map span_of (tokens text)) m

abbrev pub AreOfMap : List ℕ → MapValue → Diagnostics → Type 0
AreOfMap text m l = (rows : List Row) × IsSpelledBy text m rows × AreOfSpelled (spelled_by text m rows) l

-- What is said of a text: its faults, or the diagnostics of the map that it spells.
abbrev pub IsLint : List ℕ → Lint → Type 0
IsLint text (Faulty faults) = (0 < length faults.items) × AreFaults fault_limit text 0 faults.items
IsLint text (IsSpelled l) = (m : MapValue) × Spells text m × AreOfMap text m l
