use Rattle.keymap_diff.proofs.Clean.{same_is_never_told}
use Rattle.keymap_diff.proofs.laws.the_same_keymaps_are_never_told.Goals as goal

pub returns : goal.returns
returns c = same_is_never_told
