use Rattle.std.proofs.Common.{rules}
use Rattle.std.proofs.Common.{refl}
use Rattle.console_states.specs.Moves.{start, minding}
use Rattle.console_states.specs.declared.search.End.TheVariants.{TooMany}
use Rattle.console_states.proofs.Shared.{all-few, minded_reaches_more}
use Rattle.keyboard_cover.specs.Sights.{under}
use Rattle.keyboard_cover.proofs.Collecting.{ended-by}
use Rattle.keyboard_cover.proofs.sights.minded.Goals as goal

pub returns : goal.returns
returns c = search (rules, ended-by)

pub unreachable-requires : goal.unreachable-requires
unreachable-requires c =
    let u = under c.args.presses.now c.args.map.now in
    let p = c.in-TooMany.field-0 in
    all-few u c.args.met.now.entries p c.requires.0 c.requires.1
    (minded_reaches_more u start c.args.accent p c.in_ok-states.states.entries (refl, refl, refl)
    (ended-by (minding u c.args.accent) _ c.in_ok-states.states.entries _ start _ (TooMany p)
    c.keymaps_of-maps.ensures.under c.start.ensures c.in-TooMany.is c.in_ok-states.ensures))
