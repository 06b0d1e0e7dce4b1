use Rattle.keymap_core.proofs.SameActions.{action-same}
use Rattle.keymap_core.proofs.laws.equal_actions_are_the_same.Goals as goal

pub returns : goal.returns
returns c = action-same
