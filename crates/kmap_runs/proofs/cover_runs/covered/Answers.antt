use Rattle.kmap_runs.proofs.Common.{subst}
use Rattle.keymap_cover.specs.Covering.{IsCover}
use Rattle.kmap_runs.proofs.cover_runs.covered.Goals as goal

pub returns-in-Ok-clause-ok : goal.returns-in-Ok-clause-ok
returns-in-Ok-clause-ok c =
    let covers = subst (IsCover c.args.map.now) c.in-Ok-Some.field-0-is c.in-Ok-Some.ensures in
    (c.in-Ok-Some.cover, covers, c.in-Ok.ensures)
