use Rattle.std.proofs.Common.{rules}
use Rattle.console_states.proofs.Common.{refl, minding, alone, start, TooMany}
use Rattle.console_states.proofs.Concluding.{all-few}
use Rattle.console_states.proofs.Minding.{minded_reaches_more}
use Rattle.console_states.proofs.Reaching.{ended-under}
use Rattle.console_states.proofs.offers.minded.Goals as goal

pub returns : goal.returns
returns c = search (rules, ended-under)

pub unreachable-requires : goal.unreachable-requires
unreachable-requires c =
    let u = alone c.args.maps.now.first.now in
    let p = c.in-TooMany.field-0 in
    all-few u c.args.met.now.entries p c.requires.1 c.requires.2
    (minded_reaches_more u start c.args.accent p c.in_ok-states.states.entries (refl, refl, refl)
    (ended-under _ (minding u c.args.accent) c.in_ok-states.states.entries _ start _ (TooMany p)
    c.minding.ensures.minding c.start.ensures c.in-TooMany.is c.in_ok-states.ensures))
