use Rattle.std.proofs.Common.{rules}
use Rattle.console_scripts.proofs.Common.{reverse-append}
use Rattle.console_scripts.proofs.typing.go.Goals as goal

pub returns : goal.returns
returns c = search (rules, reverse-append)
