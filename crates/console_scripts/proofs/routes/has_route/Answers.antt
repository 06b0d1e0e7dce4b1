use Rattle.console_scripts.proofs.Common.{rules, is-nothing}
use Rattle.console_scripts.proofs.Entries.{none-found, found-has}
use Rattle.console_scripts.proofs.routes.has_route.Goals as goal

pub returns-clause-has : goal.returns-clause-has
returns-clause-has c = search (rules, found-has)

pub returns-clause-none : goal.returns-clause-none
returns-clause-none c = search (rules, none-found, is-nothing)
