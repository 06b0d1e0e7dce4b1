use Rattle.std.proofs.Common.{rules}
use Rattle.console_states.proofs.Common.{alone, start, TooMany}
use Rattle.console_states.proofs.Reaching.{ended-alone, met-alone, reaches-more}
use Rattle.console_states.proofs.sights.sights_of.Goals as goal

pub sights_in-requires : goal.sights_in-requires
sights_in-requires c = search (rules, ended-alone, met-alone)

pub returns : goal.returns
returns c =
    let m = c.args.map.now in
    let es = c.in_ok-met.met.entries in
    let p = c.in-TooMany.field-0 in
    let ended =
    ended-alone m _ es _ start _ (TooMany p) c.alone-maps.ensures.alone c.start.ensures c.in-TooMany.is
    c.in_ok-met.ensures in
    (p, reaches-more (alone m) es p ended)
