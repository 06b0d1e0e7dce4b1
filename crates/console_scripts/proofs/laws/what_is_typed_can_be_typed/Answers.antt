use Rattle.console_scripts.proofs.Refused.{typed-can}
use Rattle.console_scripts.proofs.laws.what_is_typed_can_be_typed.Goals as goal

pub returns : goal.returns
returns c = typed-can
