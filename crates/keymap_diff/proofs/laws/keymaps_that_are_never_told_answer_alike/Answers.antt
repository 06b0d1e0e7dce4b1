use Rattle.keymap_diff.proofs.Alike.{answers_are_same}
use Rattle.keymap_diff.proofs.laws.keymaps_that_are_never_told_answer_alike.Goals as goal

pub returns : goal.returns
returns c = answers_are_same
