use Rattle.kmap_runs.proofs.Common.{inr, refl, err_from_is_err_and, moves, Keeps-refl, rules}
use Rattle.kmap_runs.proofs.Written.{once_written}
use Rattle.kmap_runs.specs.Inputs.{ReadsKeymaps, of_writer}
use Rattle.kmap_runs.specs.Runs.{Finds, LacksMemory}
use Rattle.kmap_runs.proofs.search_runs.search_run.Goals as goal

pub returns-in_err-first-clause-run : goal.returns-in_err-first-clause-run
returns-in_err-first-clause-run g c = search (rules, err_from_is_err_and, Keeps-refl)

pub returns-in_default-clause-run : goal.returns-in_default-clause-run
returns-in_default-clause-run g c =
    inr (inr ((c.in_ok-first.first, c.in_ok-first.second), c.in_ok-first.ensures.reads, refl), Keeps-refl _)

pub returns-clause-run : goal.returns-clause-run
returns-clause-run g c =
    once_written of_writer (ReadsKeymaps (moves _ _) _) LacksMemory Finds (moves _ _)
    (c.in_ok-first.first, c.in_ok-first.second) c.in-Ok.never c.in-Ok.told.items _
    c.in_ok-first.ensures.reads c.in-Ok.ensures (rw c.as_slice.ensures.value at c.answer_once_written.ensures.bytes)
