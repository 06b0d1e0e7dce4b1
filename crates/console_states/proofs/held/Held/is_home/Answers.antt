use Rattle.console_states.proofs.Common.{not-true, rules, Caps, Num, Scroll, Alt}
use Rattle.std.proofs.lemmas.Bool.{not-false}
use Rattle.console_states.proofs.held.Held.is_home.Goals as goal

pub returns-then-is_free-clause-home : goal.returns-then-is_free-clause-home
returns-then-is_free-clause-home c = search (rules, not-true)

pub returns-then-is_free-clause-away : goal.returns-then-is_free-clause-away
returns-then-is_free-clause-away c =
    λ e (free, off).
    c.is_any_locked.ensures.locked (not-false c.is_any_locked.result e) (off Caps) (off Num) (off Scroll) (off Alt)
