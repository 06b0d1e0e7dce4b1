use Rattle.keymap_diff.proofs.Common.{Some, None, subst, slice_get_within}
use Rattle.console_states.specs.Looks.{IsFirstStuck}
use Rattle.keymap_diff.proofs.Ending.{forgetting-limit, forgets-none}
use Rattle.keymap_diff.proofs.nearest.before_forgetting.Goals as goal

pub returns-in-Some-clause-clean : goal.returns-in-Some-clause-clean
returns-in-Some-clause-clean c =
    (forgetting-limit c.args.both.now.old.now c.args.both.now.new.now c.args.nearest.now c.in-Some.stuck
    c.presses_to.result c.args.presses c.min.result c.requires.searched
    (subst (λ u. IsFirstStuck u c.args.nearest.now.met.entries (Some c.in-Some.stuck)) c.maps.ensures
    c.in-Some.ensures) c.presses_to.ensures c.min.ensures).0

pub returns-in-Some-clause-most : goal.returns-in-Some-clause-most
returns-in-Some-clause-most c =
    (forgetting-limit c.args.both.now.old.now c.args.both.now.new.now c.args.nearest.now c.in-Some.stuck
    c.presses_to.result c.args.presses c.min.result c.requires.searched
    (subst (λ u. IsFirstStuck u c.args.nearest.now.met.entries (Some c.in-Some.stuck)) c.maps.ensures
    c.in-Some.ensures) c.presses_to.ensures c.min.ensures).1

pub returns-in-None-clause-clean : goal.returns-in-None-clause-clean
returns-in-None-clause-clean c =
    let es = c.args.nearest.now.met.entries in
    let look = subst (λ u. IsFirstStuck u es None) c.maps.ensures c.in-None.ensures in
    forgets-none c.args.both.now.old.now c.args.both.now.new.now c.args.nearest.now c.requires.searched
    c.args.presses c.requires.within (λ j y at lt. look.is j y at (slice_get_within es j y at))
