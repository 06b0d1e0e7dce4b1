use Rattle.kmap_runs.proofs.Common.{inr, refl, err_from_is_err_and, moves, Keeps-refl, rules, subst}
use Rattle.kmap_runs.proofs.Written.{once_written}
use Rattle.kmap_runs.specs.LintRuns.{IsLinted}
use Rattle.kmap_runs.specs.Inputs.{ReadsBytes, of_writer}
use Rattle.kmap_runs.specs.Runs.{LacksMemory}
use Rattle.kmap_runs.proofs.lint_runs.lint_run.Goals as goal

pub returns-in_err-source-clause-run : goal.returns-in_err-source-clause-run
returns-in_err-source-clause-run g c = search (rules, err_from_is_err_and, Keeps-refl)

pub returns-in_default-clause-run : goal.returns-in_default-clause-run
returns-in_default-clause-run g c =
    inr (inr (c.in_ok-source.source.items, c.in_ok-source.ensures.reads, refl), Keeps-refl _)

pub returns-clause-run : goal.returns-clause-run
returns-clause-run g c =
    once_written of_writer (ReadsBytes (moves _ _)) LacksMemory (IsLinted c.args.format c.args.file.now) (moves _ _)
    c.in_ok-source.source.items c.in-Ok.found c.in-Ok.told.items _ c.in_ok-source.ensures.reads
    (subst (λ source. IsLinted c.args.format c.args.file.now source c.in-Ok.found c.in-Ok.told.items)
    c.as_slice.ensures.value c.in-Ok.ensures)
    (rw c.as_slice-2.ensures.value at c.answer_once_written.ensures.bytes)
