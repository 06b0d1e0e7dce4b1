use Rattle.kmap_c.proofs.Common.{between}
use Rattle.kmap_c.proofs.console.kmap_start.Goals as goal

pub returns-clause-begins : goal.returns-clause-begins
returns-clause-begins c = λ first second m n _ _ _ _. c.start_kept-console.ensures (between m n)
