use Rattle.console_scripts.proofs.Common.{subst, sym, LeadsHome, AllLeadHome, HasRoute}
use Rattle.console_scripts.proofs.Entries.{one-by_state, has-new, has-old}
use Rattle.console_scripts.proofs.routes.add_route.Goals as goal

pub returns-clause-home : goal.returns-clause-home
returns-clause-home c =
    λ u all home.
    subst (λ routes. AllLeadHome u routes) (sym c.in_ok-insert.ensures.entries)
    (one-by_state (λ s r. LeadsHome u s r.moves.items) c.args.routes.now.entries c.args.held c.args.route all home)

pub returns-clause-added : goal.returns-clause-added
returns-clause-added c = rw c.in_ok-insert.ensures.entries (has-new c.args.routes.now.entries c.args.held c.args.route)

pub returns-clause-kept : goal.returns-clause-kept
returns-clause-kept c =
    λ s has.
    subst (λ routes. HasRoute routes s) (sym c.in_ok-insert.ensures.entries)
    (has-old c.args.routes.now.entries c.args.held c.args.route s has)
