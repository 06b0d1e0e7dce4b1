use Rattle.console_core.proofs.Facts.{on_by_pressed_key}
use Rattle.console_core.proofs.laws.modifiers_are_raised_by_pressed_keys.Goals as goal

pub returns : goal.returns
returns c = on_by_pressed_key
