use Rattle.std.proofs.Common.{rules}
use Rattle.console_scripts.proofs.Common.{take_all}
use Rattle.std.proofs.lemmas.List.{length-drop}
use Rattle.console_scripts.proofs.Typings.{types-alone}
use Rattle.console_scripts.proofs.typing.Scribe.type_next.Goals as goal

pub returns-in-Some-clause-leads : goal.returns-in-Some-clause-leads
returns-in-Some-clause-leads c =
    let types = rw c.in-Some.is at c.in_ok-step.ensures in
    types c.args.self.now.seeker.board c.args.map.now c.requires.known

pub returns-in_ok-keep-clause-known : goal.returns-in_ok-keep-clause-known
returns-in_ok-keep-clause-known c = search (rules, take_all, length-drop, types-alone)
