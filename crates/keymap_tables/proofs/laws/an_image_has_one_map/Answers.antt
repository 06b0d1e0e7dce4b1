use Rattle.keymap_tables.proofs.Images.{same-map}
use Rattle.keymap_tables.proofs.laws.an_image_has_one_map.Goals as goal

pub returns : goal.returns
returns c = same-map
