use Rattle.console_scripts.proofs.Common.{ℕ, ◌∙◌, alone, subst, sym, CanType, ReachesMoreThan, state_limit}
use Rattle.console_scripts.proofs.Common.{true≢false}
use Rattle.console_scripts.proofs.typist.Typist.can_type.Goals as goal

pub returns-then-contains-clause-can : goal.returns-then-contains-clause-can
returns-then-contains-clause-can c =
    λ same.
    subst (λ m. CanType m c.args.c) c.self.view_is
    ((c.self.invariant.found c.args.c).0 (sym c.contains.ensures ∙ c.if-contains.true))

pub returns-then-self-clause-cannot : goal.returns-then-self-clause-cannot
returns-then-self-clause-cannot c =
    λ same.
    subst (λ m. CanType m c.args.c → ⊥) c.self.view_is
    (λ can.
    true≢false
    (sym ((c.self.invariant.found c.args.c).1 c.if-self.true can) ∙ sym c.contains.ensures ∙ c.if-contains.false))

pub returns-else-self-clause-undecided : goal.returns-else-self-clause-undecided
returns-else-self-clause-undecided c =
    λ same.
    subst (λ m. (p : ℕ) × ReachesMoreThan (alone m) state_limit p) c.self.view_is
    (c.self.invariant.many c.if-self.false)
