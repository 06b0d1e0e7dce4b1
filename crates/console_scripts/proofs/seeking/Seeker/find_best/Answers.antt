use Rattle.console_scripts.proofs.Common.{IfSome, None, Some, map_of_explored, origin_in, subst, sym, ◌∙◌}
use Rattle.console_scripts.specs.Inner.Seeking.{HasTaps, IsFound}
use Rattle.console_scripts.specs.Ways.{allows_in}
use Rattle.console_scripts.proofs.Picking.{looked-as, looked-spared, looked-unspared}
use Rattle.console_scripts.proofs.seeking.Seeker.find_best.Goals as goal

pub returns-in_default-clause-looked : goal.returns-in_default-clause-looked
returns-in_default-clause-looked c =
    let e = c.args.explored.now in
    let m = map_of_explored e in
    let b = c.args.self.now.board in
    let w = c.args.class in
    let one = w.is_one_tap in
    looked-as (allows_in b w) m (origin_in e) c.args.target one (HasTaps one) e.routes.entries c.in_ok-looked.looked
    None (sym c.into_found.ensures ∙ c.in_default.is)
    (looked-unspared b w c.none.result m (origin_in e) c.args.target one (HasTaps one) e.routes.entries
    c.in_ok-looked.looked c.none.ensures c.in_ok-looked.ensures.looked)

pub spare-requires-clause-found : goal.spare-requires-clause-found
spare-requires-clause-found c =
    let e = c.args.explored.now in
    let m = map_of_explored e in
    let b = c.args.self.now.board in
    let w = c.args.class in
    let one = w.is_one_tap in
    subst (λ z. IsFound (allows_in z w) m (origin_in e) c.args.target one e.routes.entries c.in-Some.found)
    (sym c.in_ok-looked.ensures.board)
    (subst (λ z. IfSome z (IsFound (allows_in b w) m (origin_in e) c.args.target one e.routes.entries))
    (sym c.into_found.ensures ∙ c.in-Some.is)
    (looked-unspared b w c.none.result m (origin_in e) c.args.target one (HasTaps one) e.routes.entries
    c.in_ok-looked.looked c.none.ensures c.in_ok-looked.ensures.looked).found)

pub returns-then-spares_both-clause-looked : goal.returns-then-spares_both-clause-looked
returns-then-spares_both-clause-looked c =
    let e = c.args.explored.now in
    let m = map_of_explored e in
    let b = c.args.self.now.board in
    let w = c.args.class in
    let one = w.is_one_tap in
    looked-as (allows_in b w) m (origin_in e) c.args.target one (HasTaps one) e.routes.entries c.in_ok-looked.looked
    (Some c.in-Some.found) (sym c.into_found.ensures ∙ c.in-Some.is)
    (looked-unspared b w c.none.result m (origin_in e) c.args.target one (HasTaps one) e.routes.entries
    c.in_ok-looked.looked c.none.ensures c.in_ok-looked.ensures.looked)

pub returns-clause-looked : goal.returns-clause-looked
returns-clause-looked c =
    let e = c.args.explored.now in
    let m = map_of_explored e in
    let b = c.args.self.now.board in
    let w = c.args.class in
    let one = w.is_one_tap in
    looked-spared (allows_in b w) m (origin_in e) c.args.target one (HasTaps one) e.routes.entries
    c.in_ok-looked.looked c.in-Some.found c.in_ok-found.found (sym c.into_found.ensures ∙ c.in-Some.is)
    c.in_ok-found.ensures.presses
    (subst (λ z. IsFound (allows_in z w) m (origin_in e) c.args.target one e.routes.entries c.in_ok-found.found)
    c.in_ok-looked.ensures.board c.in_ok-found.ensures.found)
    (looked-unspared b w c.none.result m (origin_in e) c.args.target one (HasTaps one) e.routes.entries
    c.in_ok-looked.looked c.none.ensures c.in_ok-looked.ensures.looked)
