use Rattle.kmap_c.proofs.Faulty.{unfaulty}
use Rattle.kmap_c.proofs.texts.kmap_print_text.Goals as goal

pub returns-then-text-needed-clause-faulty : goal.returns-then-text-needed-clause-faulty
returns-then-text-needed-clause-faulty c = unfaulty _ c.args.tables.now (λ e. cc) c.in-Ok.ensures.image

pub returns-clause-faulty : goal.returns-clause-faulty
returns-clause-faulty c = unfaulty _ c.args.tables.now (λ e. cc) c.in-Ok.ensures.image
