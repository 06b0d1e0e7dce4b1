use Rattle.std.proofs.Common.{rules}
use Rattle.console_scripts.proofs.Common.{ap, ◌∙◌}
use Rattle.console_scripts.proofs.Visitable.{states-of}
use Rattle.console_scripts.proofs.explorer.Explorer.new.Goals as goal

pub explore-requires : goal.explore-requires
explore-requires c = (ap (λ s. s.is_second) c.start.ensures, ap (λ s. s.is_pending) c.start.ensures)

pub invariant_of-result : goal.invariant_of-result
invariant_of-result c = search rules

pub returns-then-explored-clause-explorer : goal.returns-then-explored-clause-explorer
returns-then-explored-clause-explorer c = c.in_ok-explored.ensures.1

pub returns-clause-explorer : goal.returns-clause-explorer
returns-clause-explorer c =
    let e = c.in_ok-explored.explored in
    let (x, same, from) = c.in_ok-explored.ensures in
    rw (← (from ∙ c.start.ensures), ← same) (x.more c.if-explored.false)

pub returns-then-explored-clause-states : goal.returns-then-explored-clause-states
returns-then-explored-clause-states c = search (rules, states-of)
