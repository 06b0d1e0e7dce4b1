-- The names of severities, and behind which kinds the answer of the search is told.
use Rattle.std.specs.Prelude.{ℕ, ◌+◌, ◌&&◌, not, nat_le, Bool, false, List, codes}
use Rattle.std.specs.List.{list_any}
use Rattle.keymap_lint.specs.declared.diagnostic.Diagnostic.{Diagnostic}
use Rattle.keymap_lint.specs.declared.diagnostic.Kind.{Kind}
use Rattle.keymap_lint.specs.declared.diagnostic.Kind.TheVariants as kinds
use Rattle.keymap_lint.specs.declared.diagnostic.Severity.{Severity}
use Rattle.keymap_lint.specs.declared.diagnostic.Severity.TheVariants as severities

abbrev pub severity_text : Severity → List ℕ
severity_text severities.Error = codes "error"
severity_text severities.Warning = codes "warning"

-- a mixed key, of this number or a greater one
abbrev pub is_mixed_from : ℕ → Kind → Bool
is_mixed_from key (kinds.MixedKey finding character) = nat_le key finding.key
is_mixed_from key _ = false

abbrev pub has_mixed_from : List Diagnostic → ℕ → Bool
has_mixed_from list key = list_any (λ (d : Diagnostic). is_mixed_from key d.kind) list

-- Of the diagnostics in a list, the answer of the search is told behind the mixed key with the greatest number, or,
-- where no key is mixed, behind the half-defined text that has keys.
unfoldable pub is_noted : List Diagnostic → Kind → Bool
is_noted list (kinds.MixedKey finding character) = not (has_mixed_from list (finding.key + 1))
is_noted list (kinds.HalfDefined selector has_keys) = has_keys && not (has_mixed_from list 0)
is_noted list _ = false
