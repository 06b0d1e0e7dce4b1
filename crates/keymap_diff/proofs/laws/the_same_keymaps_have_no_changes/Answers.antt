use Rattle.keymap_diff.proofs.Same.{nothing_if_same}
use Rattle.keymap_diff.proofs.laws.the_same_keymaps_have_no_changes.Goals as goal

pub returns : goal.returns
returns c = nothing_if_same
