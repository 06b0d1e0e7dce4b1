use Rattle.keymap_text.proofs.Common.{sym, arith, at}
use Rattle.keymap_text.proofs.Leading.{plain_spaces}
use Rattle.keymap_text.proofs.RowTaken.{take_cell}
use Rattle.keymap_text.proofs.Scanning.{after_blanks}
use Rattle.keymap_text.specs.Inner.Grammar as spec
use Rattle.keymap_text.proofs.scanner.take_cell.Goals as goal

pub returns-in-Ok-clause-took : goal.returns-in-Ok-clause-took
returns-in-Ok-clause-took c =
    let blanks = c.space_run-blanks.ensures in
    let rest = c.args.rest.now in
    record {
      none = λ e. absurd (omega (arith, e, c.in-Some.ensures.some));
      some = λ some m slot.
          after_blanks (at m (spec.CellAt slot c.args.index c.args.grammar.now.entry)) _ rest c.in-Some.item _
          c.in-Some.n (omega (arith, blanks.some, plain_spaces rest)) (omega (arith, blanks.bound)) c.in-Some.ensures
          (take_cell m slot c.args.index c.args.grammar.now.entry c.in-Some.item c.in-Ok.cell (sym c.in-Ok.ensures));
    }
