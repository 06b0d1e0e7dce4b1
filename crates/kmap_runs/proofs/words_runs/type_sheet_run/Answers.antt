use Rattle.kmap_runs.proofs.Common.{List, err_from_is_err_and, moves, Keeps-refl, rules}
use Rattle.kmap_runs.proofs.Written.{once_written}
use Rattle.kmap_runs.specs.Inputs.{ReadsForCommand, ReadsText, of_command_writer}
use Rattle.kmap_runs.specs.Runs.{LacksSheet}
use Rattle.kmap_runs.specs.Spelling.{IsSheet}
use Rattle.kmap_runs.specs.declared.spelling.Spelled.{Spelled}
use Rattle.kmap_runs.proofs.words_runs.type_sheet_run.Goals as goal

pub returns-in_err-map-clause-run : goal.returns-in_err-map-clause-run
returns-in_err-map-clause-run g c = search (rules, err_from_is_err_and, Keeps-refl)

pub returns-in_err-lines-clause-run : goal.returns-in_err-lines-clause-run
returns-in_err-lines-clause-run g c = search (rules, err_from_is_err_and, Keeps-refl)

pub returns-clause-run : goal.returns-clause-run
returns-clause-run g c =
    once_written of_command_writer (ReadsForCommand (ReadsText (moves _ _))) LacksSheet
    (λ m _ told. (xs : List Spelled) × IsSheet c.args.board m xs) (moves _ _)
    c.in_ok-map.map tt c.in_ok-lines.lines.items _ c.in_ok-map.ensures.reads c.in_ok-lines.ensures.ok
    (rw c.as_slice.ensures.value at c.command_once_written.ensures.bytes)
