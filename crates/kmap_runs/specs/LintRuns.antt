-- What is found in a text, and what is printed of it in a format.
use Rattle.std.specs.Prelude.{◌≡◌, ℕ, not, List}
use Rattle.keymap_lint.specs.declared.diagnostic.Lint.{Lint}
use Rattle.keymap_lint.specs.declared.diagnostic.Severity.TheVariants.{Error, Warning}
use Rattle.keymap_lint.specs.Lists.{IsLint}
use Rattle.keymap_lint.specs.Severities.{has_error}
use Rattle.keymap_lint_text.specs.Told.{counted}
use Rattle.keymap_lint_text.specs.Whole.{remarks}
use Rattle.kmap_runs.specs.declared.lint_runs.Linted.{Linted}
use Rattle.lint_formats.specs.Printed.{IsPrinted}
use Rattle.lint_formats.specs.declared.format.Format.{Format}

-- whether none of its diagnostics is an error, and how many are errors and warnings
abbrev pub IsCounted : List ℕ → Lint → Linted → Type 0
IsCounted text l found =
    (found.is_well ≡ not (has_error l)) × (found.errors ≡ counted Error (remarks text l))
    × (found.warnings ≡ counted Warning (remarks text l))

abbrev pub IsLinted : Format → List ℕ → List ℕ → Linted → List ℕ → Type 0
IsLinted format file text found printed =
    (l : Lint) × IsLint text l × IsCounted text l found × IsPrinted format file text (remarks text l) printed
