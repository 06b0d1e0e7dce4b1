use Rattle.keymap_diff.proofs.Clean.{safe_lists_are_clean}
use Rattle.keymap_diff.proofs.laws.safe_keymaps_have_clean_lists.Goals as goal

pub returns : goal.returns
returns c = safe_lists_are_clean
