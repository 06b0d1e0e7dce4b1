use Rattle.std.proofs.Common.{rules}
use Rattle.console_scripts.proofs.Aiming.{route-reached}
use Rattle.console_scripts.proofs.Visitable.{home-at}
use Rattle.console_scripts.proofs.explorer.Explorer.leads_home.Goals as goal

pub returns-clause-home : goal.returns-clause-home
returns-clause-home c = search (rules, home-at)

pub returns-clause-astray : goal.returns-clause-astray
returns-clause-astray c = search (rules, route-reached)
