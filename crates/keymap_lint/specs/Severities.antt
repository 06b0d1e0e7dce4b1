-- How much each kind of diagnostic weighs, by what the search answers.
use Rattle.std.specs.Prelude.{Bool, true, false, not, ◌||◌, if◌then◌else◌, Option, Some}
use Rattle.std.specs.List.{list_any}
use Rattle.keymap_lint.specs.Types.{Sticking, Diagnostic, Kind, Diagnostics, Lint, Faulty, Spelled}
use Rattle.console_states.specs.declared.outcome.Sticking.TheVariants.{Never}
use Rattle.keymap_lint.specs.declared.diagnostic.Kind.TheVariants.{NoKey, MixedKey, HalfDefined}
use Rattle.keymap_lint.specs.declared.diagnostic.Severity.{Severity}
use Rattle.keymap_lint.specs.declared.diagnostic.Severity.TheVariants.{Error, Warning}

-- the search answers that no modifier ever stays on
abbrev pub never_sticks : Option Sticking → Bool
never_sticks (Some Never) = true
never_sticks _ = false

abbrev pub error_unless : Bool → Severity
error_unless is_mild = if is_mild then Warning else Error

abbrev pub severity_of : Bool → Kind → Severity
severity_of never NoKey = Error
severity_of never (MixedKey finding character) = error_unless never
severity_of never (HalfDefined selector has_keys) = error_unless (never || not has_keys)
severity_of never _ = Warning

abbrev pub is_error : Severity → Bool
is_error Error = true
is_error Warning = false

abbrev pub is_error_among : Diagnostics → Bool
is_error_among l = list_any (λ (d : Diagnostic). is_error (severity_of (never_sticks l.sticking) d.kind)) l.list.items

-- the text has a fault, or some diagnostic is an error
abbrev pub has_error : Lint → Bool
has_error (Faulty faults) = true
has_error (Spelled l) = is_error_among l
