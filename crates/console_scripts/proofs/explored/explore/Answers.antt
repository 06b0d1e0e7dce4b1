use Rattle.console_scripts.proofs.Common.{[], ◌∷◌, refl, subst, sym, ◌∙◌, true≢false, alone, state_of, HasEnded}
use Rattle.console_states.proofs.Shared.{reaches-more}
use Rattle.console_scripts.proofs.explored.explore.Goals.{in-Complete, in-TooMany}
use Rattle.console_states.specs.declared.search.End.TheVariants as end
use Rattle.console_scripts.proofs.explored.explore.Goals as goal

pub returns : goal.returns
returns c =
    let u = alone c.args.map.now in
    let o = state_of c.args.origin.now in
    let es = c.in_ok-met.met.entries in
    elim c.match-end.branch [
      | in-Complete w ↦
          let e : HasEnded u (o ∷ []) es end.Complete =
          subst (λ z. HasEnded u (o ∷ []) es z) w.in-Complete.is c.in_ok-met.ensures in (
            record {
              under = refl;
              origin = c.requires;
              searched = e.searched;
              home = c.in_ok-routes.ensures.home;
              whole = λ is. (e.is.0, c.in_ok-routes.ensures.all refl);
              few = λ is. e.is.1;
              more = λ is. absurd (true≢false (sym w.is_complete-is ∙ is));
            },
            refl,
            refl,
          )
      | in-TooMany w ↦
          let e : HasEnded u (o ∷ []) es (end.TooMany w.in-TooMany.field-0) =
          subst (λ z. HasEnded u (o ∷ []) es z) w.in-TooMany.is c.in_ok-met.ensures in (
            record {
              under = refl;
              origin = c.requires;
              searched = e.searched;
              home = c.in_ok-routes.ensures.home;
              whole = λ is. absurd (true≢false (sym is ∙ w.is_complete-is));
              few = λ is. absurd (true≢false (sym is ∙ w.is_complete-is));
              more = λ is. (w.in-TooMany.field-0, reaches-more u es w.in-TooMany.field-0 e);
            },
            refl,
            refl,
          )
    ]
