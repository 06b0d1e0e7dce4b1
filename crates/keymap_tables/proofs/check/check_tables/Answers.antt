use Rattle.keymap_tables.proofs.Outcomes.{OnOk-map}
use Rattle.keymap_tables.proofs.check.check_tables.Goals as goal

pub returns-clause-image : goal.returns-clause-image
returns-clause-image c = OnOk-map c.check_file.result _ _ c.check_file.ensures.image (λ read. (read.0, read.1, read.3))
