use Rattle.kmap_runs.proofs.Common.{◌≡◌, ◌∙◌, ap, not, subst}
use Rattle.keymap_lint.specs.declared.diagnostic.Severity.TheVariants.{Error, Warning}
use Rattle.keymap_lint_text.specs.Told.{counted, remarks_of}
use Rattle.keymap_lint_text.specs.Whole.{remarks}
use Rattle.lint_formats.specs.Printed.{IsPrinted}
use Rattle.kmap_runs.proofs.lint_runs.found_in.Goals as goal

pub returns : goal.returns
returns c =
    let told : remarks_of c.as_slice-list.result.now ≡ remarks c.args.source.now c.in_ok-lint.lint =
    ap remarks_of c.as_slice-list.ensures.value ∙ c.in_ok-told.ensures in (
      c.in_ok-lint.lint,
      c.in_ok-lint.ensures.said,
      (
        ap not c.has_error-is_well.ensures,
        c.count-errors.ensures ∙ ap (counted Error) told,
        c.count-warnings.ensures ∙ ap (counted Warning) told,
      ),
      subst (λ es. IsPrinted c.args.format c.args.file.now c.args.source.now es c.in_ok-text.text.items) told
          c.in_ok-text.ensures,
    )
