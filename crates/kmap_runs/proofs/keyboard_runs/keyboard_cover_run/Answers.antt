use Rattle.kmap_runs.proofs.Common.{err_from_is_err_and, moves, Keeps-refl, rules}
use Rattle.kmap_runs.proofs.Written.{once_written}
use Rattle.kmap_runs.specs.Inputs.{ReadsForCommand, ReadsText, of_command_writer}
use Rattle.kmap_runs.specs.Runs.{IsCoveredBy, LacksKeyboardCover}
use Rattle.kmap_runs.proofs.keyboard_runs.keyboard_cover_run.Goals as goal

pub returns-in_err-map-clause-run : goal.returns-in_err-map-clause-run
returns-in_err-map-clause-run g c = search (rules, err_from_is_err_and, Keeps-refl)

pub returns-in_err-told-clause-run : goal.returns-in_err-told-clause-run
returns-in_err-told-clause-run g c = search (rules, err_from_is_err_and, Keeps-refl)

pub returns-clause-run : goal.returns-clause-run
returns-clause-run g c =
    once_written of_command_writer (ReadsForCommand (ReadsText (moves _ _))) (LacksKeyboardCover c.args.keyboard.now)
    (IsCoveredBy c.args.keyboard.now c.args.sends_repeats) (moves _ _)
    c.in_ok-map.map tt c.in_ok-told.told.items _ c.in_ok-map.ensures.reads c.in_ok-told.ensures.ok
    (rw c.as_slice.ensures.value at c.command_once_written.ensures.bytes)
