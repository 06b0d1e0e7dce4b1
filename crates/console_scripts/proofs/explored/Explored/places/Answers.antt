use Rattle.std.proofs.Common.{rules}
use Rattle.console_scripts.proofs.Marking.{gathered-first, gathered-all}
use Rattle.console_scripts.proofs.explored.Explored.places.Goals as goal

pub loop-place-init : goal.loop-place-init
loop-place-init c = search (rules, gathered-first)

pub returns : goal.returns
returns c = search (rules, gathered-all)
