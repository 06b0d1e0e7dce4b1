use Rattle.console_scripts.proofs.Common.{rules, searched-back}
use Rattle.console_scripts.proofs.Visitable.{key-at, key-within, leads-by, place-some}
use Rattle.console_scripts.proofs.explorer.Explorer.events_to.Goals as goal

pub go_out-requires-clause-back : goal.go_out-requires-clause-back
go_out-requires-clause-back c = search (rules, searched-back)

pub returns-then-place-len-clause-leads : goal.returns-then-place-len-clause-leads
returns-then-place-len-clause-leads c = search (rules, key-within)

pub returns-clause-leads : goal.returns-clause-leads
returns-clause-leads c = search (rules, key-at, leads-by)

pub returns-clause-none : goal.returns-clause-none
returns-clause-none c = search (rules, place-some)
