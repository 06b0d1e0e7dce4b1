use Rattle.keymap_tables.proofs.Wideness.{fits-no-wide}
use Rattle.keymap_tables.proofs.laws.a_map_that_fits_has_no_wide_character.Goals as goal

pub returns : goal.returns
returns c = fits-no-wide
