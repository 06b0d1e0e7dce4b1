use Rattle.std.proofs.Common.{rules}
use Rattle.console_scripts.proofs.Common.{arith, map_of_explored, origin_in}
use Rattle.console_scripts.proofs.Common.{subst, sym, ◌∙◌}
use Rattle.console_scripts.specs.Inner.Seeking.{HasTaps, IsLooked}
use Rattle.console_scripts.specs.Ways.{allows_in}
use Rattle.console_scripts.proofs.Picking.{chosen-first, many-both, none-more}
use Rattle.console_scripts.proofs.seeking.Seeker.choose.Goals as goal

pub loop-place-init : goal.loop-place-init
loop-place-init c = search rules

pub returns-in-Some-clause-chosen : goal.returns-in-Some-clause-chosen
returns-in-Some-clause-chosen c =
    let e = c.args.explored.now in
    let m = map_of_explored e in
    let s = origin_in e in
    let k = c.args.target in
    let w = c.class_at-class.result in
    chosen-first c.args.self.now.board m s k e.routes.entries c.loop-place.place w c.in_ok-looked.looked c.in-Some.found
    c.loop-place.has_met_all _ c.class_at-class.ensures
    (subst (λ b. IsLooked (allows_in b w) m s k w.is_one_tap (HasTaps w.is_one_tap) e.routes.entries
    c.in_ok-looked.looked) c.loop-place.invariant.board c.in_ok-looked.ensures.looked)
    (sym c.into_found.ensures ∙ c.in-Some.is) c.loop-place.invariant.none c.loop-place.invariant.many
    c.are_both-has_met_all.ensures

pub loop-place-preserved : goal.loop-place-preserved
loop-place-preserved c =
    let e = c.args.explored.now in
    let m = map_of_explored e in
    let s = origin_in e in
    let k = c.args.target in
    let w = c.class_at-class.result in
    record {
      board = c.in_ok-looked.ensures.board ∙ c.loop-place.invariant.board;
      courses = c.in_ok-looked.ensures.courses;
      none =
          none-more c.args.self.now.board m s k e.routes.entries c.loop-place.place w c.in_ok-looked.looked
          c.loop-place.has_met_all _ c.class_at-class.ensures
          (subst (λ b. IsLooked (allows_in b w) m s k w.is_one_tap (HasTaps w.is_one_tap) e.routes.entries
          c.in_ok-looked.looked) c.loop-place.invariant.board c.in_ok-looked.ensures.looked)
          (sym c.into_found.ensures ∙ c.in_default.is) c.loop-place.invariant.none c.are_both-has_met_all.ensures;
      many =
          many-both m s c.loop-place.has_met_all c.in_ok-looked.looked.has_met_all _ c.are_both-has_met_all.ensures
          c.loop-place.invariant.many c.in_ok-looked.ensures.looked.many;
    }

pub returns-clause-chosen : goal.returns-clause-chosen
returns-clause-chosen c =
    let e = c.args.explored.now in
    record {
      found = tt;
      none = λ none t.
          λ w y lt is. c.loop-place.invariant.none t w y (omega (arith, lt, c.loop-place-test.false)) is;
      many = c.loop-place.invariant.many;
    }
