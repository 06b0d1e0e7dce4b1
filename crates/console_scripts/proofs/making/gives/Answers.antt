use Rattle.std.proofs.Common.{rules}
use Rattle.console_scripts.proofs.Common.{eq-eqb}
use Rattle.console_scripts.proofs.Makers.{no-maker}
use Rattle.console_scripts.proofs.making.gives.Goals as goal

pub returns : goal.returns
returns c = search (rules, no-maker, eq-eqb)
