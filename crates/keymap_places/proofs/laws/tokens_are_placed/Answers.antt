use Rattle.keymap_places.proofs.TokenPlaces.{tokens_are_placed}
use Rattle.keymap_places.proofs.laws.tokens_are_placed.Goals as goal

pub returns : goal.returns
returns c = tokens_are_placed
