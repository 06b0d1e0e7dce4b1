use Rattle.console_states.proofs.Common.{◌∙◌, sym, subst, arith, cases_lt, inl, inr, HolderForgets, state_of, under_of}
use Rattle.console_states.proofs.Common.{modifier-at}
use Rattle.console_states.proofs.held.Held.forgetful.Goals as goal

-- none of those before, and not this one
pub loop-modifier-preserved : goal.loop-modifier-preserved
loop-modifier-preserved c n lt i e k forgets = elim (cases_lt n c.loop-modifier.modifier-index) [
  | inl below ↦ c.loop-modifier.invariant n below i e k forgets
  | inr le ↦
      c.in-None.ensures k
      (subst (λ j. HolderForgets (under_of c.args.maps.now) (state_of c.args.self.now) j k)
      (sym (modifier-at i c.loop-modifier.modifier-index _ (e ∙ omega (arith, lt, le)))) forgets)
]
