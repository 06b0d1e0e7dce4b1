use Rattle.keymap_places.proofs.OneRow.{one_row_list}
use Rattle.keymap_places.proofs.laws.one_list_of_rows.Goals as goal

pub returns : goal.returns
returns c = one_row_list
