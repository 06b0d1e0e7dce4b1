use Rattle.std.proofs.Common.{rules}
use Rattle.console_scripts.proofs.Common.{◌≡◌, ◌∷◌, ◌++◌, ◌∙◌, [], Some, Contains, Contains-append_left, Contains-push}
use Rattle.console_scripts.proofs.Common.{Entry, ap, inl, inr, same_Some, slice_get, slice_get_within, subst}
use Rattle.console_scripts.proofs.Common.{place_last}
use Rattle.console_scripts.proofs.routes.states_of.Goals as goal

pub loop-place-preserved : goal.loop-place-preserved
loop-place-preserved c =
    λ j x lt at.
    let old = c.loop-place.states.items in
    let h = c.in-Some.held.now in
    rw c.in_ok-push-in-Some.ensures.items (elim (place_last j c.loop-place.place lt) [
      | inl below ↦ Contains-append_left old (h ∷ []) x.0 (c.loop-place.invariant j x below at)
      | inr e ↦ subst (λ z. Contains (old ++ h ∷ []) z)
          (ap (λ (z : Entry). z.0) (same_Some _ x (c.in-Some.ensures.entry
          ∙ subst (λ i. slice_get c.args.met.now.entries i ≡ Some x) e at))) (Contains-push old h)
    ])

pub returns : goal.returns
returns c = search (rules, slice_get_within)
