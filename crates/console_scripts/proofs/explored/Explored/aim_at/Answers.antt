use Rattle.console_scripts.proofs.Common.{◌≡◌, MatchOption, Some, subst, sym, map_of_explored, IsAim, rules}
use Rattle.console_scripts.proofs.Common.{CanVisit}
use Rattle.console_scripts.proofs.Aiming.{aims-at, dead-not, found-aim}
use Rattle.console_states.specs.declared.selection.Sight.TheVariants as sight
use Rattle.console_scripts.proofs.explored.Explored.aim_at.Goals as goal

pub returns-in-Some : goal.returns-in-Some
returns-in-Some c =
    let e = c.args.self.now in
    let pair = sight.Pair c.in-Pair.accent c.in-Pair.character in
    subst
    (λ x. MatchOption c.aim_behind.result (CanVisit (map_of_explored e) x → ⊥)
    (λ a. IsAim e a × (a.sight ≡ x))) (sym c.in-Pair.is)
    (found-aim e c.requires pair (Some c.in-Some.dead) c.in-Some.ensures c.aim_behind.result c.aim_behind.ensures)

pub returns-in-None : goal.returns-in-None
returns-in-None c =
    subst (λ x. CanVisit (map_of_explored c.args.self.now) x → ⊥) (sym c.in-Pair.is)
    (dead-not c.args.self.now c.requires c.in-Pair.accent c.in-Pair.character c.in-None.ensures)

pub returns-in_default : goal.returns-in_default
returns-in_default c = search (rules, aims-at)
