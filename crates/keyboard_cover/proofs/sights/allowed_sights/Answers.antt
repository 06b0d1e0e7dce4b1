use Rattle.std.proofs.Common.{rules}
use Rattle.console_states.specs.Moves.{start}
use Rattle.console_states.specs.declared.search.End.TheVariants.{TooMany}
use Rattle.console_states.proofs.Shared.{reaches-more}
use Rattle.keyboard_cover.specs.Sights.{under}
use Rattle.keyboard_cover.proofs.Collecting.{ended-by}
use Rattle.keyboard_cover.proofs.sights.allowed_sights.Goals as goal

pub sights_in-requires : goal.sights_in-requires
sights_in-requires c = search (rules, ended-by)

pub returns : goal.returns
returns c =
    let u = under c.args.presses.now c.args.map.now in
    let p = c.in-TooMany.field-0 in
    let ended = ended-by u _ c.in_ok-met.met.entries _ start _ (TooMany p) c.keymaps_of-maps.ensures.under
    c.start.ensures c.in-TooMany.is c.in_ok-met.ensures in
    (p, reaches-more u c.in_ok-met.met.entries p ended)
