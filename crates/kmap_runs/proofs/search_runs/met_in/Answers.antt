use Rattle.console_core.specs.History.{between}
use Rattle.console_states.specs.Moves.{alone, with_loads}
use Rattle.kmap_runs.proofs.Accepted.{answer-found}
use Rattle.kmap_runs.proofs.search_runs.met_in.Goals as goal

pub returns-in-Some : goal.returns-in-Some
returns-in-Some c =
    rw c.in-Some.is
    (answer-found (with_loads (between c.args.first.now c.in-Some.second)) c.sticking_between.result
    c.sticking_between.ensures)

pub returns-in-None : goal.returns-in-None
returns-in-None c = rw c.in-None.is (answer-found (alone c.args.first.now) c.sticking.result c.sticking.ensures)
