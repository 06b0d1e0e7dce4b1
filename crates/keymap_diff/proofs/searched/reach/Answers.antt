use Rattle.keymap_diff.proofs.Common.{refl}
use Rattle.keymap_diff.proofs.searched.reach.Goals as goal

pub returns-in-Some : goal.returns-in-Some
returns-in-Some c = rw c.in-Some.is (c.presses_to.result, refl, c.presses_to.ensures)
