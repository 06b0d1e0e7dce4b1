use Rattle.keymap_cover.proofs.Common.{all_cells, rules}
use Rattle.keymap_cover.proofs.told.told_of_keys.Goals as goal

pub returns : goal.returns
returns c = search (rules, all_cells)
