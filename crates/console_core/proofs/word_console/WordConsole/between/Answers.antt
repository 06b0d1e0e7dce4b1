use Rattle.console_core.proofs.Common.{refl}
use Rattle.console_core.proofs.word_console.WordConsole.between.Goals as goal

pub returns : goal.returns
returns c = c.over.ensures c.args.first.now c.args.second.now refl refl
