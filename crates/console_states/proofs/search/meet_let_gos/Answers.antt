use Rattle.console_states.proofs.Common.{ℕ, ◌<◌, None, subst, refl, arith, below_more, modifier_index, Holds}
use Rattle.console_states.proofs.Common.{with_holder, state_of, IsMetBy, modifier-at}
use Rattle.console_states.proofs.Growing.{added-again, met-grows}
use Rattle.console_core.proofs.Shared.{modifier_index-lt}
use Rattle.console_states.proofs.Searching.{steps-to}
use Rattle.console_states.proofs.search.meet_let_gos.Goals as goal

pub loop-modifier-preserved : goal.loop-modifier-preserved
loop-modifier-preserved c =
    let es = c.loop-modifier.met.entries in
    let now = c.meet.new.met.entries in
    let p = c.args.presses in
    let s = state_of c.args.held.now in
    record {
      within = c.in_ok-meet.ensures.within;
      met =
          below_more _ _
          (λ n lt i e k holds. met-grows es now p (with_holder s i None) c.in_ok-meet.ensures.grown
          (c.loop-modifier.invariant.met n lt i e k holds))
          (λ i e. subst (λ j. (k : ℕ) → Holds s k j → IsMetBy now p (with_holder s j None))
          (modifier-at i c.loop-modifier.modifier-index _ e)
          (λ k holds. steps-to (IsMetBy now p) c.let_go.result _ (c.let_go.ensures.leads k holds)
          c.in_ok-meet.ensures.met));
      added =
          λ u. added-again u s c.args.place 0 p c.args.met.now.entries es now (c.loop-modifier.invariant.added u)
          (c.in_ok-meet.ensures.added u c.args.held.now 0 (c.let_go.ensures.step u));
    }

pub returns-clause-met : goal.returns-clause-met
returns-clause-met c =
    λ k i holds.
    let lt : modifier_index i < 8 = modifier_index-lt i in
    c.loop-modifier.invariant.met (modifier_index i) (omega arith) i refl k holds
