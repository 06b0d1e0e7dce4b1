use Rattle.console_states.proofs.Common.{[], ◌∷◌, refl, subst, start, alone, state_of, HasEnded}
use Rattle.console_states.proofs.Concluding.{complete-few}
use Rattle.console_states.proofs.Reaching.{reaches-more}
use Rattle.console_states.proofs.search.has_few_states.Goals as goal

pub returns-in-Complete-clause-few : goal.returns-in-Complete-clause-few
returns-in-Complete-clause-few c few =
    let u = alone c.args.map.now in
    let es = c.in_ok-end.field-0-0.entries in
    let told : HasEnded u (start ∷ []) es c.in_ok-end.end =
    subst (λ s. HasEnded u (s ∷ []) es c.in_ok-end.end) c.start.ensures
    (subst (λ u. HasEnded u (state_of c.start.result ∷ []) es c.in_ok-end.end) c.alone.ensures.alone
    c.in_ok-end.ensures)
    in
    complete-few u es (subst (λ o. HasEnded u (start ∷ []) es o) c.in-Complete.is told) refl

pub returns-in-TooMany-clause-many : goal.returns-in-TooMany-clause-many
returns-in-TooMany-clause-many c many =
    let u = alone c.args.map.now in
    let es = c.in_ok-end.field-0-0.entries in
    let told : HasEnded u (start ∷ []) es c.in_ok-end.end =
    subst (λ s. HasEnded u (s ∷ []) es c.in_ok-end.end) c.start.ensures
    (subst (λ u. HasEnded u (state_of c.start.result ∷ []) es c.in_ok-end.end) c.alone.ensures.alone
    c.in_ok-end.ensures)
    in (
      c.in-TooMany.field-0,
      reaches-more u es c.in-TooMany.field-0 (subst (λ o. HasEnded u (start ∷ []) es o) c.in-TooMany.is told),
    )
