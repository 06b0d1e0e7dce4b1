use Rattle.keymap_core.proofs.Equality.{accent-same}
use Rattle.keymap_core.proofs.laws.equal_accents_are_the_same.Goals as goal

pub returns : goal.returns
returns c = accent-same
