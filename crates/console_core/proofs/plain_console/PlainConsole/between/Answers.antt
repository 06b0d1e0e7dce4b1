use Rattle.console_core.proofs.Common.{refl}
use Rattle.console_core.proofs.plain_console.PlainConsole.between.Goals as goal

pub returns : goal.returns
returns c = c.over.ensures c.args.first.now c.args.second.now refl refl
