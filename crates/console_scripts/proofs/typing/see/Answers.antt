use Rattle.console_scripts.proofs.Common.{IsExploredFrom, rules}
use Rattle.console_scripts.proofs.Entries.{one-by_state, has-new, found-has}
use Rattle.console_scripts.proofs.typing.see.Goals as goal

pub returns-in_ok-insert-clause-explorations : goal.returns-in_ok-insert-clause-explorations
returns-in_ok-insert-clause-explorations c =
    rw c.in_ok-insert.ensures.entries
    (one-by_state (IsExploredFrom c.args.map.now) c.args.explorations.now.entries c.args.from.now
    c.in_ok-explored.explored c.requires.explorations c.in_ok-explored.ensures)

pub returns-in_ok-insert-clause-seen : goal.returns-in_ok-insert-clause-seen
returns-in_ok-insert-clause-seen c =
    rw c.in_ok-insert.ensures.entries
    (has-new c.args.explorations.now.entries c.args.from.now c.in_ok-explored.explored)

pub returns-else-not-contains_key-clause-seen : goal.returns-else-not-contains_key-clause-seen
returns-else-not-contains_key-clause-seen c = search (rules, found-has)
