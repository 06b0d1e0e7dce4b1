use Rattle.kmap_runs.proofs.Common.{inr, refl, err_from_is_err_and, moves, Keeps-refl, rules}
use Rattle.kmap_runs.proofs.Written.{once_written}
use Rattle.kmap_runs.specs.Inputs.{ReadsText, of_writer}
use Rattle.kmap_runs.specs.Runs.{ReportsBriefly, LacksMemory}
use Rattle.kmap_runs.proofs.brief_runs.check_brief_run.Goals as goal

pub returns-in_err-map-clause-run : goal.returns-in_err-map-clause-run
returns-in_err-map-clause-run g c = search (rules, err_from_is_err_and, Keeps-refl)

pub returns-in_default-clause-run : goal.returns-in_default-clause-run
returns-in_default-clause-run g c =
    inr (inr (c.in_ok-map.map, c.in_ok-map.ensures.reads, refl), Keeps-refl _)

pub returns-clause-run : goal.returns-clause-run
returns-clause-run g c =
    once_written of_writer (ReadsText (moves _ _)) LacksMemory (ReportsBriefly c.args.file.now) (moves _ _)
    c.in_ok-map.map c.is_accepted-accepted.result c.in-Ok.line.items _ c.in_ok-map.ensures.reads
    (c.is_accepted-accepted.ensures, c.in-Ok.ensures)
    (rw c.as_slice.ensures.value at c.answer_once_written.ensures.bytes)
