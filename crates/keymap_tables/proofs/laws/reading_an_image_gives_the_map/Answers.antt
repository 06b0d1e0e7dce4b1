use Rattle.keymap_tables.proofs.Common.{image_in, refl}
use Rattle.keymap_tables.proofs.ReadingLaws.{reading-image}
use Rattle.keymap_tables.proofs.laws.reading_an_image_gives_the_map.Goals as goal

pub returns : goal.returns
returns c = λ l m r is fits reading. reading-image l (image_in l m) r reading m is fits refl
