use Rattle.keymap_core.proofs.NameLaws.{combined-refused}
use Rattle.keymap_core.proofs.laws.combined_names_are_refused.Goals as goal

pub returns : goal.returns
returns c = combined-refused
