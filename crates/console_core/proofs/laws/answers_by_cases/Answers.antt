use Rattle.console_core.proofs.Prefixes.{answers_by_cases}
use Rattle.console_core.proofs.laws.answers_by_cases.Goals as goal

pub returns : goal.returns
returns c = answers_by_cases
