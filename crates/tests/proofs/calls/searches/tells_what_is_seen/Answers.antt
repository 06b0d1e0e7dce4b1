use Rattle.console_states.specs.Moves.{start}
use Rattle.console_states.specs.declared.search.End.TheVariants.{Complete}
use Rattle.console_states.proofs.Shared.{ended-alone, met-alone}
use Rattle.tests.proofs.calls.searches.tells_what_is_seen.Goals as goal

pub sights_in-given-requires : goal.sights_in-given-requires
sights_in-given-requires g c =
    let es = c.in_ok-met.met.entries in
    let map = c.alone-maps.ensures in
    let ended =
    ended-alone _ _ es _ start _ Complete map.alone c.start.ensures c.in-Complete.is c.in_ok-met.ensures in
    met-alone c.alone-maps.result _ es map.alone map.first ended.is.0 ended.is.1
