use Rattle.kmap_runs.proofs.Common.{inr, err_from_is_err_and, moves, Keeps-refl, rules}
use Rattle.kmap_runs.proofs.Written.{once_written}
use Rattle.kmap_runs.specs.Inputs.{ReadsForCommand, ReadsSentence, ReadsText, of_command_writer}
use Rattle.kmap_runs.specs.Runs.{AreToldInWords, LacksDecision}
use Rattle.play_core.specs.Runs.{ReadsBoth, Stays}
use Rattle.kmap_runs.proofs.words_runs.type_words_run.Goals as goal

pub returns-in_err-map-clause-run : goal.returns-in_err-map-clause-run
returns-in_err-map-clause-run g c = search (rules, err_from_is_err_and, Keeps-refl)

pub returns-in_err-bytes-clause-run : goal.returns-in_err-bytes-clause-run
returns-in_err-bytes-clause-run g c = search (rules, err_from_is_err_and, Keeps-refl)

pub returns-in_err-stopped-clause-run : goal.returns-in_err-stopped-clause-run
returns-in_err-stopped-clause-run g c =
    let p =
    err_from_is_err_and c.from_residual-in_err-stopped.result c.from_residual-in_err-stopped.ensures.1 in
    let lacks = rw c.as_slice.ensures.value at c.in_err-stopped.ensures.err in
    rw (p.1, p.2)
    (inr (
      inr (
        (c.in_ok-map.map, c.in_ok-bytes.bytes.items),
        (c.in_ok-map.ensures.reads, c.in_ok-bytes.ensures.reads),
        lacks,
      ),
      Keeps-refl _,
    ))

pub returns-clause-run : goal.returns-clause-run
returns-clause-run g c =
    once_written of_command_writer
    (ReadsBoth (ReadsForCommand (ReadsText (moves _ _))) (ReadsSentence (moves _ _)) (Stays (moves _ _)))
    (λ v e. LacksDecision v.0 v.1 e) (λ v stopped told. AreToldInWords c.args.board v.0 v.1 stopped) (moves _ _)
    (c.in_ok-map.map, c.in_ok-bytes.bytes.items) c.in_ok-stopped.stopped c.in_ok-stopped.lines.items _
    (c.in_ok-map.ensures.reads, c.in_ok-bytes.ensures.reads)
    (rw c.as_slice.ensures.value at c.in_ok-stopped.ensures.ok)
    (rw c.as_slice-2.ensures.value at c.command_once_written.ensures.bytes)
