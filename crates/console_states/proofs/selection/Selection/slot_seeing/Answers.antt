use Rattle.console_states.proofs.Common.{rules}
use Rattle.console_states.proofs.Visible.{key-of-slot}
use Rattle.console_states.proofs.selection.Selection.slot_seeing.Goals as goal

pub returns-else-sees : goal.returns-else-sees
returns-else-sees c = search (rules, key-of-slot)
