use Rattle.keymap_core.proofs.Equality.{entry-same}
use Rattle.keymap_core.proofs.laws.equal_entries_are_the_same.Goals as goal

pub returns : goal.returns
returns c = entry-same
