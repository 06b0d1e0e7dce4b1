use Rattle.keymap_places.proofs.Placing.{found_at, fault_at}
use Rattle.keymap_places.proofs.placed.token_from.Goals as goal

pub returns-in-Ok : goal.returns-in-Ok
returns-in-Ok c =
    found_at c.args.text.now c.args.at c.in-Ok.token c.requires c.in-Ok.ensures.exact c.in-Ok.ensures.span

pub returns-in-Err : goal.returns-in-Err
returns-in-Err c = fault_at c.args.text.now c.args.at c.in-Err.field-0 c.in-Err.ensures.exact
