use Rattle.console_scripts.proofs.Common.{none_unless, IfSome, below_more, subst, LeadsHome, state_of, rules}
use Rattle.console_scripts.proofs.Common.{modifier-at}
use Rattle.console_core.proofs.Shared.{modifier_index-lt}
use Rattle.console_scripts.proofs.RoutesHome.{let_go-astray}
use Rattle.console_scripts.proofs.routes.route_by_let_go.Goals as goal

pub returns-in-Some-clause-home : goal.returns-in-Some-clause-home
returns-in-Some-clause-home c =
    λ u all.
    subst (λ o. IfSome o (λ x. LeadsHome u (state_of c.args.held.now) x.moves.items)) c.in-Some.is
    (c.in_ok-route.ensures.home u (state_of c.args.held.now) 0 all (c.let_go.ensures.step u))

pub loop-modifier-preserved : goal.loop-modifier-preserved
loop-modifier-preserved c = search (rules, below_more, modifier-at, let_go-astray, none_unless)

pub returns-clause-astray : goal.returns-clause-astray
returns-clause-astray c = search (rules, modifier_index-lt)
