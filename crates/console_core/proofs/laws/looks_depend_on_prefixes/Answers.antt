use Rattle.console_core.proofs.Prefixes.{resolved_at_prefix}
use Rattle.console_core.proofs.laws.looks_depend_on_prefixes.Goals as goal

pub returns : goal.returns
returns c = resolved_at_prefix
