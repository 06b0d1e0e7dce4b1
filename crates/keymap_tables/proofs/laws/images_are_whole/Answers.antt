use Rattle.keymap_tables.proofs.Images.{length-image}
use Rattle.keymap_tables.proofs.laws.images_are_whole.Goals as goal

pub returns : goal.returns
returns c = length-image
