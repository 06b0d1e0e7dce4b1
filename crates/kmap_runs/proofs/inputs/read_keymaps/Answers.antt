use Rattle.kmap_runs.proofs.Common.{err_from_is_err_and, rules}
use Rattle.kmap_runs.proofs.Chained.{stays-same}
use Rattle.kmap_runs.proofs.inputs.read_keymaps.Goals as goal

pub returns-in_err-first-clause-reads : goal.returns-in_err-first-clause-reads
returns-in_err-first-clause-reads g c = search (rules, err_from_is_err_and, stays-same)

pub returns-in_err-second-clause-reads : goal.returns-in_err-second-clause-reads
returns-in_err-second-clause-reads g c = search (rules, err_from_is_err_and)
