use Rattle.keymap_cover.proofs.Ahead.{nothing_is_ahead}
use Rattle.keymap_cover.proofs.laws.nothing_is_ahead.Goals as goal

pub returns : goal.returns
returns c = nothing_is_ahead
