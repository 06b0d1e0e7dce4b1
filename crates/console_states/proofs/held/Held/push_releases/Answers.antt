use Rattle.console_states.proofs.Common.{◌<◌, [], ◌∷◌, ◌++◌, take, ap, sym, ◌∙◌, arith, append_assoc, append-nil}
use Rattle.console_states.proofs.Common.{modifiers, Release, releases, release_of, state_of}
use Rattle.console_states.proofs.GoingBack.{releases-more}
use Rattle.console_states.proofs.held.Held.push_releases.Goals.{in-Some+in_ok-push, in_default}
use Rattle.console_states.proofs.held.Held.push_releases.Goals as goal

pub loop-modifier-preserved : goal.loop-modifier-preserved
loop-modifier-preserved c =
    let s = state_of c.args.self.now in
    let n = c.loop-modifier.modifier-index in
    let lt : n < 8 = omega (arith, c.loop-modifier-test.true) in
    let old = releases s (take n modifiers) in
    elim c.match-holder.branch [
      | in-Some+in_ok-push w ↦
          ap (λ v. v.items) w.events-is ∙ w.in_ok-push.ensures.items
          ∙ ap (λ z. z ++ Release w.in-Some.key ∷ []) c.loop-modifier.invariant
          ∙ append_assoc c.args.events.now.items old (Release w.in-Some.key ∷ [])
          ∙ ap (λ z. c.args.events.now.items ++ z)
          (sym (releases-more s n _ lt ∙ ap (λ o. old ++ release_of o) (sym c.holder.ensures ∙ w.in-Some.is)))
      | in_default w ↦
          ap (λ v. v.items) w.events-is ∙ c.loop-modifier.invariant
          ∙ ap (λ z. c.args.events.now.items ++ z)
          (sym (releases-more s n _ lt ∙ ap (λ o. old ++ release_of o) (sym c.holder.ensures ∙ w.in_default.is)
          ∙ append-nil old))
    ]
