use Rattle.console_core.proofs.Common.{between}
use Rattle.console_core.proofs.word_console.WordConsole.over.Goals as goal

pub returns : goal.returns
returns g c = λ m n first second. c.over.ensures (between m n) first second
