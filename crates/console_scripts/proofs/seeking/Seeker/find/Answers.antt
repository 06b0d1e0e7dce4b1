use Rattle.std.proofs.Common.{rules}
use Rattle.console_scripts.proofs.Common.{ap, map_of_explored, option_copied, sym, ◌∙◌}
use Rattle.std.proofs.lemmas.Result.{IfOk-weaker}
use Rattle.console_scripts.proofs.Looking.{looked-nothing}
use Rattle.console_scripts.proofs.Recalling.{are_same_courses, found-reached, reached-back, reached-more, tells-course}
use Rattle.console_scripts.proofs.seeking.Seeker.find.Goals as goal

pub returns-in_default-clause-looked : goal.returns-in_default-clause-looked
returns-in_default-clause-looked c =
    looked-nothing c.args.self.now.board (map_of_explored c.args.explored.now) c.args.course.now c.args.target
    c.args.explored.now.routes.entries c.nothing.result c.in_default.ensures c.nothing.ensures.none
    c.nothing.ensures.all

pub look_in-requires : goal.look_in-requires
look_in-requires c =
    let b = c.args.self.now.board in
    let m = map_of_explored c.args.explored.now in
    let o = c.args.course.now in
    record {
      back = reached-back b m o c.in-Some-get.reached.now
          (found-reached are_same_courses tells-course b m c.args.self.now.courses.entries o c.in-Some-get.reached.now
          c.requires.courses (sym c.get.ensures.value ∙ ap option_copied c.in-Some-get.is));
    }

pub returns-in-Some-get-clause-looked : goal.returns-in-Some-get-clause-looked
returns-in-Some-get-clause-looked c =
    let b = c.args.self.now.board in
    let m = map_of_explored c.args.explored.now in
    let o = c.args.course.now in
    IfOk-weaker c.look_in.result _ _
    (λ r told.
    told b m o c.args.target
    (found-reached are_same_courses tells-course b m c.args.self.now.courses.entries o c.in-Some-get.reached.now
    c.requires.courses (sym c.get.ensures.value ∙ ap option_copied c.in-Some-get.is))
    c.requires.explored c.requires.can_return c.in-Some.ensures)
    c.look_in.ensures

pub look_in-requires-2 : goal.look_in-requires-2
look_in-requires-2 c = search (rules, reached-back)

pub returns-clause-courses : goal.returns-clause-courses
returns-clause-courses c = search (rules, reached-more, are_same_courses, tells-course)
