use Rattle.kmap_runs.proofs.Common.{refl}
use Rattle.kmap_runs.proofs.Spellings.{none-typed}
use Rattle.kmap_runs.proofs.spelling.add_spelled.Goals as goal

pub returns-in-Err-NoWay-clause-stopped : goal.returns-in-Err-NoWay-clause-stopped
returns-in-Err-NoWay-clause-stopped c = (
  refl,
  refl,
  none-typed c.args.map.now c.args.character c.in-Err-NoWay.field-0-0 c.in-Err-NoWay.field-0
      c.in-Err-NoWay.field-0-is c.in-Err-NoWay.ensures.error,
)
