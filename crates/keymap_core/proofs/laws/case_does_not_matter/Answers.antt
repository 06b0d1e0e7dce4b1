use Rattle.keymap_core.proofs.NameLaws.{same-meaning}
use Rattle.keymap_core.proofs.laws.case_does_not_matter.Goals as goal

pub returns : goal.returns
returns c = same-meaning
