use Rattle.console_scripts.proofs.Common.{[], ◌∷◌, refl, subst, sym, ◌∙◌, true≢false, state_of, HasEnded}
use Rattle.console_states.specs.Allowed.{is_pressed}
use Rattle.console_scripts.proofs.Coursing.{reaches-many}
use Rattle.console_scripts.specs.Inner.Courses.{under_by}
use Rattle.console_scripts.proofs.courses.reach.Goals.{in-Complete, in-TooMany}
use Rattle.console_states.specs.declared.search.End.TheVariants as end
use Rattle.console_scripts.proofs.courses.reach.Goals as goal

pub returns : goal.returns
returns c =
    let p = c.presses_of-presses.result in
    let o = c.args.course.now in
    let s = state_of o.from in
    let es = c.in_ok-met.met.entries in
    let u = under_by (is_pressed p) o.accent c.args.map.now in
    elim c.match-end.branch [
      | in-Complete w ↦
          let e : HasEnded u (s ∷ []) es end.Complete =
          subst (λ z. HasEnded u (s ∷ []) es z) w.in-Complete.is
          (subst (λ v. HasEnded v (s ∷ []) es c.in_ok-met.end) c.keymaps_by-maps.ensures c.in_ok-met.ensures) in
          record {
            presses = p;
            known = c.requires.known;
            are = c.presses_of-presses.ensures.presses;
            source = c.requires.source;
            end = end.Complete;
            ended = e;
            complete = λ is. refl;
            partial = λ is. absurd (true≢false (sym w.is_complete-is ∙ is));
          }
      | in-TooMany w ↦
          let n = w.in-TooMany.field-0 in
          let e : HasEnded u (s ∷ []) es (end.TooMany n) =
          subst (λ z. HasEnded u (s ∷ []) es z) w.in-TooMany.is
          (subst (λ v. HasEnded v (s ∷ []) es c.in_ok-met.end) c.keymaps_by-maps.ensures c.in_ok-met.ensures) in
          record {
            presses = p;
            known = c.requires.known;
            are = c.presses_of-presses.ensures.presses;
            source = c.requires.source;
            end = end.TooMany n;
            ended = e;
            complete = λ is. absurd (true≢false (sym is ∙ w.is_complete-is));
            partial = λ is. reaches-many c.args.map.now (is_pressed p) o.accent s es n c.requires.source e;
          }
    ]
