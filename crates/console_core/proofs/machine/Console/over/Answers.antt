use Rattle.console_core.proofs.Common.{HasKey}
use Rattle.std.proofs.lemmas.List.Elements.{All-nil}
use Rattle.console_core.proofs.Agreeing.{stands-start}
use Rattle.console_core.proofs.machine.Console.over.Goals as goal

pub returns : goal.returns
returns g c = λ ms first second. (first, second, All-nil HasKey, rw c.requires (stands-start ms))
