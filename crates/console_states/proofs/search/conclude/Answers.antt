use Rattle.console_states.proofs.Common.{[], ◌∷◌, reverse, subst, slice_get_within, Complete, TooMany}
use Rattle.console_states.proofs.Common.{start, under_of, HasEnded}
use Rattle.console_states.proofs.Concluding.{complete-few, complete-never, none-late, stuck-sticks}
use Rattle.console_states.proofs.Deciding.{sent-loads, are-on-under}
use Rattle.console_states.proofs.GoingBack.{searched-back}
use Rattle.console_states.proofs.Reaching.{reaches-more}
use Rattle.console_states.proofs.search.conclude.Goals as goal

pub script-requires-clause-place : goal.script-requires-clause-place
script-requires-clause-place c =
    let (x, at, stuck) = c.in-Some.ensures.is.0 in slice_get_within _ _ _ at

pub script-requires-clause-back : goal.script-requires-clause-back
script-requires-clause-back c =
    searched-back (under_of c.args.maps.now) c.args.met.now.entries 0 0 c.requires.ended.searched

pub returns-in-Some : goal.returns-in-Some
returns-in-Some c =
    let u = under_of c.args.maps.now in
    let stuck = c.in-Some.ensures.is in
    let h = reverse c.in_ok-events.events.items in
    let left =
    stuck-sticks u c.args.met.now.entries _ c.in-Some.stuck.place c.in-Some.stuck.key c.requires.ended stuck.0 stuck.1 h
    (c.in_ok-events.ensures u) in (
      left.0,
      left.1,
      left.2,
      are-on-under u h c.in_ok-modifiers.modifiers.items (sent-loads u h left.0.1)
          (rw (← c.as_slice.ensures.value) c.in_ok-modifiers.ensures),
    )

pub returns-in-Complete : goal.returns-in-Complete
returns-in-Complete c =
    let u = under_of c.args.maps.now in
    let es = c.args.met.now.entries in
    let told : HasEnded u (start ∷ []) es Complete =
    subst (λ o. HasEnded u (start ∷ []) es o) c.in-Complete.is c.requires.ended in
    (complete-never u es told c.in_default.ensures.is, complete-few u es told c.requires.unminded)

pub returns-in-TooMany : goal.returns-in-TooMany
returns-in-TooMany c =
    let u = under_of c.args.maps.now in
    let es = c.args.met.now.entries in
    let told : HasEnded u (start ∷ []) es (TooMany c.in-TooMany.presses) =
    subst (λ o. HasEnded u (start ∷ []) es o) c.in-TooMany.is c.requires.ended in
    (reaches-more u es c.in-TooMany.presses told, none-late u es c.in-TooMany.presses told c.in_default.ensures.is)
