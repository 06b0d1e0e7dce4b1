use Rattle.keymap_core.proofs.Equality.{map-same}
use Rattle.keymap_core.proofs.laws.equal_maps_are_the_same.Goals as goal

pub returns : goal.returns
returns c = map-same
