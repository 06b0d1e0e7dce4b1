use Rattle.std.proofs.Common.{rules, subst, ◌≡◌, true}
use Rattle.keyboard_cover.specs.Runs.{EndsAtRest, RunValue}
use Rattle.keyboard_cover.proofs.Runs.{rests}
use Rattle.keyboard_cover.proofs.run.Run.is_at_rest.Goals as goal

pub returns-then-not-has_any_lock : goal.returns-then-not-has_any_lock
returns-then-not-has_any_lock c =
    subst (λ (v : RunValue). c.is_none.result ≡ true → EndsAtRest v.map v.events) c.self.view_is
    (λ is h rest.
    let at = c.self.invariant.1.console h rest in
    rests c.self.inside.map.now c.self.inside.events.items h rest at.2 (search (rules)) (search (rules))
    (search (rules)) (search (rules)))
