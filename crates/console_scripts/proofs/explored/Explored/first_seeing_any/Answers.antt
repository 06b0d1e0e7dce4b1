use Rattle.console_scripts.proofs.Common.{inl, inr, subst, sym, ap, arith, ◌∙◌, get_or, get_or_default, Sees}
use Rattle.console_scripts.proofs.Common.{place_last}
use Rattle.console_states.specs.Looks.{IsNowhere}
use Rattle.console_scripts.proofs.Visitable.{shows-none, shows-some}
use Rattle.console_scripts.proofs.explored.Explored.first_seeing_any.Goals as goal

pub loop-sight-preserved : goal.loop-sight-preserved
loop-sight-preserved c =
    λ n x lt at.
    elim (place_last n c.loop-sight.sight-index lt) [
      | inl below ↦ c.loop-sight.invariant n x below at
      | inr f ↦
          subst (λ s. IsNowhere (Sees c.args.self.now s) c.args.self.now.met.entries)
          (get_or_default c.args.sights.now c.loop-sight.sight-index _ x c.loop-sight-test.true
          ∙ ap (λ i. get_or c.args.sights.now i x) (sym f) ∙ at)
          (shows-none c.args.self.now _ c.in_default.ensures)
    ]

pub returns-in-Some : goal.returns-in-Some
returns-in-Some c = (
  _,
  (
    c.loop-sight.sight-index,
    c.loop-sight-test.true,
    get_or_default c.args.sights.now c.loop-sight.sight-index _ _ c.loop-sight-test.true,
  ),
  shows-some c.args.self.now _ c.in-Some.at c.in-Some.ensures,
)

pub returns : goal.returns
returns c = λ x (n, lt, at). c.loop-sight.invariant n x (omega (arith, lt, c.loop-sight-test.false)) at
