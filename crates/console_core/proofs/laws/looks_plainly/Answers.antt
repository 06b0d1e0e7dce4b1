use Rattle.console_core.proofs.PlainLooks.{looks_plainly, plain_on_by_keys, plain_locked_by_keys}
use Rattle.console_core.proofs.laws.looks_plainly.Goals as goal

pub returns : goal.returns
returns c = record { look = looks_plainly; on = plain_on_by_keys; locked = plain_locked_by_keys }
