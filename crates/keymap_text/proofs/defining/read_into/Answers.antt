use Rattle.keymap_text.proofs.Judged.{fault_by}
use Rattle.keymap_text.proofs.Verdicts.{spells_from}
use Rattle.keymap_text.proofs.defining.read_into.Goals as goal

pub returns-in-Ok : goal.returns-in-Ok
returns-in-Ok g c = λ shows.
    let a = c.in-Ok.ensures.takes shows in (a.0, spells_from c.args.text.now a.0 a.2, a.1)

pub returns-in-Err : goal.returns-in-Err
returns-in-Err g c = λ shows.
    let a = c.in-Err.ensures.takes shows in
    fault_by c.args.text.now c.in-Err.stop.kind c.in-Err.stop.at a.0 c.fault_at.result a.1 c.fault_at.ensures.kind
    c.fault_at.ensures.place c.fault_at.ensures.line
