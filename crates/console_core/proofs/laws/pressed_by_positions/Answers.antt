use Rattle.console_core.proofs.Prefixes.{pressed_by_positions}
use Rattle.console_core.proofs.laws.pressed_by_positions.Goals as goal

pub returns : goal.returns
returns c = pressed_by_positions
