use Rattle.kmap_runs.proofs.Common.{inr, refl, err_from_is_err_and, moves, Keeps-refl, rules}
use Rattle.kmap_runs.proofs.Written.{once_written}
use Rattle.play_core.specs.Runs.{ReadsBoth, Stays}
use Rattle.kmap_runs.specs.Inputs.{ReadsOther, ReadsText, of_writer}
use Rattle.kmap_runs.specs.Runs.{IsChangeDrawn, LacksMemory}
use Rattle.kmap_runs.proofs.change_runs.draw_change_run.Goals as goal

pub returns-in_err-old-clause-run : goal.returns-in_err-old-clause-run
returns-in_err-old-clause-run g c = search (rules, err_from_is_err_and, Keeps-refl)

pub returns-in_err-new-clause-run : goal.returns-in_err-new-clause-run
returns-in_err-new-clause-run g c = search (rules, err_from_is_err_and, Keeps-refl)

pub returns-in_default-clause-run : goal.returns-in_default-clause-run
returns-in_default-clause-run g c =
    inr (
      inr ((c.in_ok-old.old, c.in_ok-new.new), (c.in_ok-old.ensures.reads, c.in_ok-new.ensures.reads), refl),
      Keeps-refl _,
    )

pub returns-clause-run : goal.returns-clause-run
returns-clause-run g c =
    once_written of_writer (ReadsBoth (ReadsText (moves _ _)) (ReadsOther (moves _ _)) (Stays (moves _ _))) LacksMemory
    (λ v _ told. IsChangeDrawn c.args.board c.args.name.now c.args.old_name.now v told) (moves _ _)
    (c.in_ok-old.old, c.in_ok-new.new) tt c.in-Ok.drawn.items _
    (c.in_ok-old.ensures.reads, c.in_ok-new.ensures.reads) c.in-Ok.ensures
    (rw c.as_slice.ensures.value at c.answer_once_written.ensures.bytes)
