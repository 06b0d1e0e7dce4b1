use Rattle.console_scripts.proofs.courses.may_end.Goals as goal

pub returns-then-takes-clause-other : goal.returns-then-takes-clause-other
returns-then-takes-clause-other c = λ no may. c.has_made.ensures no
