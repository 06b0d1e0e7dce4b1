use Rattle.console_scripts.proofs.Common.{rules, on_ok-then}
use Rattle.console_scripts.proofs.Leading.{steady-leads}
use Rattle.console_scripts.proofs.explorer.tap_if.Goals as goal

pub returns-in-Some : goal.returns-in-Some
returns-in-Some c = search (rules, on_ok-then, steady-leads)

pub returns-in-None : goal.returns-in-None
returns-in-None c = search (rules, steady-leads)
