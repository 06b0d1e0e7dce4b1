use Rattle.console_scripts.proofs.Common.{map_of_explored, origin_in, sym, ◌∙◌}
use Rattle.console_scripts.proofs.Picking.{found-sparing}
use Rattle.console_scripts.proofs.seeking.Seeker.spare.Goals as goal

pub returns-then-other-found-clause-found : goal.returns-then-other-found-clause-found
returns-then-other-found-clause-found c =
    let e = c.args.explored.now in
    found-sparing c.args.self.now.board _ c.args.class _ (map_of_explored e) (origin_in e) c.args.target
    c.args.class.is_one_tap _ e.routes.entries c.in_ok-looked.looked c.in-Some.other c.loop-spared.invariant.board
    (sym c.into_found.ensures ∙ c.in-Some.is) c.in_ok-looked.ensures.looked
