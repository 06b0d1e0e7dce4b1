use Rattle.keymap_tables.proofs.Common.{rules}
use Rattle.keymap_tables.proofs.Images.{first-content}
use Rattle.keymap_tables.proofs.Outcomes.{OnOk-map, IfErr-map}
use Rattle.keymap_tables.proofs.check.check_file.Goals as goal

pub returns-clause-image : goal.returns-clause-image
returns-clause-image c =
    OnOk-map c.read_content.result _ _ c.read_content.ensures.taken (λ taken. (taken.0, taken.1, taken.2, taken.3))

pub returns-clause-fault : goal.returns-clause-fault
returns-clause-fault c = search (rules, IfErr-map, first-content)
