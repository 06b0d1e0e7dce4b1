use Rattle.console_core.proofs.Facts.{holding_is_remembered}
use Rattle.console_core.proofs.laws.holding_actions_are_remembered.Goals as goal

pub returns : goal.returns
returns c = holding_is_remembered
