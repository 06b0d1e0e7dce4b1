use Rattle.keymap_text.proofs.Common.{refl}
use Rattle.keymap_text.proofs.Scanning.{takes_token, takes_fault, takes_on, takes_moved}
use Rattle.keymap_text.proofs.scanner.take_token.Goals as goal

pub returns-in-Ok-clause-takes : goal.returns-in-Ok-clause-takes
returns-in-Ok-clause-takes g c =
    takes_on (takes_token c.in-Some.ensures c.in-Ok.ensures.steps) refl (takes_moved c.take_cells.ensures.took)

pub returns-in-Err-clause-takes : goal.returns-in-Err-clause-takes
returns-in-Err-clause-takes g c = takes_fault c.in-Some.ensures refl c.in-Err.ensures.steps
