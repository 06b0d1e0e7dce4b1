-- for the states below the place no key is answered
use Rattle.console_states.proofs.Common.{None}
use Rattle.console_states.specs.Looks.{HoldsBelow}
use Rattle.console_states.proofs.look.first_where.Given as goal

abbrev pub invariant-loop-place : goal.invariant-loop-place
invariant-loop-place g l = HoldsBelow (λ h. goal.F-post g l.key_in h None) l.met.entries l.place
