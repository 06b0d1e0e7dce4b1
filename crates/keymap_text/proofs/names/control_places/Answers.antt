use Rattle.keymap_text.proofs.Common.{get_or, ap, ◌∙◌, NAMES}
use Rattle.keymap_text.proofs.ControlNames.{six_of, control_six}
use Rattle.keymap_text.proofs.names.control_places.Goals as goal

pub returns : goal.returns
returns c =
    ap (λ n. six_of (get_or NAMES n _).0) c.control_place.ensures.value ∙ control_six c.args.c _ c.requires
