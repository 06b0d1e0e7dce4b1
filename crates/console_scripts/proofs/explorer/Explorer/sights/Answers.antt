use Rattle.console_scripts.proofs.Common.{IfOk, AreSightsOf, subst}
use Rattle.console_scripts.proofs.Aiming.{whole-met}
use Rattle.console_scripts.proofs.explorer.Explorer.sights.Goals as goal

pub sights_in-requires : goal.sights_in-requires
sights_in-requires c = whole-met c.self.inside.explored c.self.invariant

pub returns : goal.returns
returns c = subst (λ p. IfOk c.sights_in.result (λ x. AreSightsOf p.map x)) c.self.view_is c.sights_in.ensures
