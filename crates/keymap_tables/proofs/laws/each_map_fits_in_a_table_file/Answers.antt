use Rattle.keymap_tables.proofs.ReadingLaws.{map-wide}
use Rattle.keymap_tables.proofs.laws.each_map_fits_in_a_table_file.Goals as goal

pub returns : goal.returns
returns c = map-wide
