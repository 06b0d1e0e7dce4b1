use Rattle.console_scripts.proofs.Common.{subst, sym, ◌∙◌, ap, IfSome, option_copied, LeadsHome, IsStep, rules}
use Rattle.console_scripts.proofs.Entries.{found-by_state, none-found}
use Rattle.console_scripts.proofs.RoutesHome.{step-home}
use Rattle.console_scripts.proofs.routes.route_by.Goals as goal

pub returns-in_ok-longer-in-Some-get-clause-home : goal.returns-in_ok-longer-in-Some-get-clause-home
returns-in_ok-longer-in-Some-get-clause-home c =
    λ u s n all is.
    let x = c.in-Some.step in
    let step : IsStep u s n x = subst (λ o. IfSome o (IsStep u s n)) c.in-Some.is is in
    rw c.in_ok-longer-in-Some-get.ensures (step-home u s n x c.in-Some-get.route.now.moves.items step
    (found-by_state (λ t r. LeadsHome u t r.moves.items) c.args.routes.now.entries x.to _ all
    (sym c.get.ensures.value ∙ ap option_copied c.in-Some-get.is)))

pub returns-in-None-get-clause-astray : goal.returns-in-None-get-clause-astray
returns-in-None-get-clause-astray c = search (rules, none-found)
