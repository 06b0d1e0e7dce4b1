use Rattle.std.proofs.Common.{rules}
use Rattle.console_scripts.proofs.Common.{arith, false, map_of_explored, state_of, subst}
use Rattle.console_scripts.proofs.Common.{◌∙◌}
use Rattle.std.specs.Prelude.{Some}
use Rattle.console_scripts.specs.Inner.Courses.{allows_but}
use Rattle.console_scripts.specs.Inner.Seeking.{HasAccent, IsLooked}
use Rattle.console_scripts.proofs.Picking.{looked-composed, looked-none}
use Rattle.console_scripts.proofs.seeking.Seeker.find_composed.Goals as goal

pub loop-by-init : goal.loop-by-init
loop-by-init c = search (rules, looked-none)

pub loop-by-preserved : goal.loop-by-preserved
loop-by-preserved c =
    let o = c.args.course.now in
    let m = map_of_explored c.args.explored.now in
    let s = state_of o.from in
    let k = c.args.target in
    let routes = c.args.explored.now.routes.entries in
    let n = c.loop-by.index in
    record {
      below = omega (arith, c.in-Some.ensures.in_range);
      board = c.in_ok-looked.ensures.board ∙ c.loop-by.invariant.board;
      courses = c.in_ok-looked.ensures.courses;
      looked =
          c.or_nearer-nearest.ensures (allows_but c.args.self.now.board o.class o.spared) m s k false routes n
          c.loop-by.invariant.looked
          (subst (λ b. IsLooked (allows_but b o.class o.spared) m s k false (HasAccent (Some n)) routes
          c.in_ok-looked.looked) c.loop-by.invariant.board c.in_ok-looked.ensures.looked);
    }

pub returns-clause-looked : goal.returns-clause-looked
returns-clause-looked c = search (rules, looked-composed)
