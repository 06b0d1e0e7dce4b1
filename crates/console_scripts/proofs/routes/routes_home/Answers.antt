use Rattle.std.proofs.Common.{rules}
use Rattle.console_scripts.proofs.Common.{◌≡◌, length, inl, inr, ap, sym, subst, arith, Contains, state_of}
use Rattle.console_scripts.proofs.routes.routes_home.Goals as goal

pub returns-then-len-clause-all : goal.returns-then-len-clause-all
returns-then-len-clause-all c =
    λ loads j x at.
    let now = c.deref.result.now in
    let same : now ≡ c.loop-states.states.items = c.deref.ensures.value in
    elim (c.loop-states.invariant.all j x at) [
      | inl is ↦ inl (c.in_ok-rest.ensures.kept (state_of x.0) is)
      | inr left ↦
          inr (c.in_ok-rest.ensures.astray
          (omega (arith, c.if-len.true, c.len.ensures, c.len-in-loop-states.ensures, ap (λ z. length z) same)) loads x.0
          (subst (λ z. Contains z x.0) (sym same) left))
    ]

pub loop-states-preserved : goal.loop-states-preserved
loop-states-preserved c = search rules

pub loop-states-smaller : goal.loop-states-smaller
loop-states-smaller c = search rules

pub loop-states-init : goal.loop-states-init
loop-states-init c = search rules
