use Rattle.kmap_runs.proofs.keyboard_runs.covered_by.Goals as goal

pub returns-then-not-types-clause-err : goal.returns-then-not-types-clause-err
returns-then-not-types-clause-err c =
    (c.in_ok-cover.cover, c.in_ok-cover.ensures.ok, c.types.ensures.silent c.if-not-types.true)

pub returns-in-Ok-clause-ok : goal.returns-in-Ok-clause-ok
returns-in-Ok-clause-ok c =
    (c.in_ok-cover.cover, c.in_ok-cover.ensures.ok, c.types.ensures.typing c.if-not-types.false, c.in-Ok.ensures)
