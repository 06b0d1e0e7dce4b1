use Rattle.console_states.proofs.Common.{under_of}
use Rattle.console_states.proofs.Beginning.{searched-begun}
use Rattle.console_states.proofs.search.meet_all.Goals as goal

pub meet_levels-requires-clause-keys : goal.meet_levels-requires-clause-keys
meet_levels-requires-clause-keys c = rw c.as_slice.ensures.value c.in_ok-keys.ensures

pub meet_levels-requires-clause-order : goal.meet_levels-requires-clause-order
meet_levels-requires-clause-order c =
    (searched-begun (under_of c.args.maps.now) c.args.from.now _ c.in_ok-met.ensures).1

pub returns : goal.returns
returns c =
    c.in_ok-end.ensures _ (searched-begun (under_of c.args.maps.now) c.args.from.now _ c.in_ok-met.ensures).0
