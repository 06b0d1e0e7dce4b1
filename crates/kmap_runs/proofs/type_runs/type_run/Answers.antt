use Rattle.kmap_runs.proofs.Common.{inr, err_from_is_err_and, moves, Keeps-refl, rules}
use Rattle.kmap_runs.proofs.Written.{once_written}
use Rattle.kmap_runs.specs.Inputs.{ReadsForCommand, ReadsSentence, ReadsText, of_command_writer}
use Rattle.kmap_runs.specs.Runs.{LacksScript, Types}
use Rattle.play_core.specs.Runs.{ReadsBoth, Stays}
use Rattle.kmap_runs.proofs.type_runs.type_run.Goals as goal

pub returns-in_err-map-clause-run : goal.returns-in_err-map-clause-run
returns-in_err-map-clause-run g c = search (rules, err_from_is_err_and, Keeps-refl)

pub returns-in_err-bytes-clause-run : goal.returns-in_err-bytes-clause-run
returns-in_err-bytes-clause-run g c = search (rules, err_from_is_err_and, Keeps-refl)

pub returns-in_err-script-clause-run : goal.returns-in_err-script-clause-run
returns-in_err-script-clause-run g c =
    let p = err_from_is_err_and c.from_residual-in_err-script.result c.from_residual-in_err-script.ensures.1 in
    let lacks = rw c.as_slice.ensures.value at c.in_err-script.ensures.err in
    rw (p.1, p.2)
    (inr (
      inr (
        (c.in_ok-map.map, c.in_ok-bytes.bytes.items),
        (c.in_ok-map.ensures.reads, c.in_ok-bytes.ensures.reads),
        lacks,
      ),
      Keeps-refl _,
    ))

pub returns-clause-run : goal.returns-clause-run
returns-clause-run g c =
    once_written of_command_writer
    (ReadsBoth (ReadsForCommand (ReadsText (moves _ _))) (ReadsSentence (moves _ _)) (Stays (moves _ _)))
    (λ v e. LacksScript v.0 v.1 e) (λ v _ told. Types c.args.board v.0 v.1 told) (moves _ _)
    (c.in_ok-map.map, c.in_ok-bytes.bytes.items) tt c.in_ok-script.script.items _
    (c.in_ok-map.ensures.reads, c.in_ok-bytes.ensures.reads) (rw c.as_slice.ensures.value at c.in_ok-script.ensures.ok)
    (rw c.as_slice-2.ensures.value at c.command_once_written.ensures.bytes)
