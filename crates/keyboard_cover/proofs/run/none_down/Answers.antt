use Rattle.keymap_cover.proofs.Shared.{all-off}
use Rattle.keyboard_cover.proofs.run.none_down.Goals as goal

pub returns-clause-none : goal.returns-clause-none
returns-clause-none c = all-off
