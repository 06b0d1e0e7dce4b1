use Rattle.kmap_runs.proofs.spelling.add_new.Goals as goal

pub returns-then-branch-clause-new : goal.returns-then-branch-clause-new
returns-then-branch-clause-new c is new = c.add_spelled.ensures.added is
