use Rattle.kmap_runs.proofs.Common.{rules}
use Rattle.kmap_runs.proofs.Replayed.{taken-whole}
use Rattle.kmap_runs.proofs.Dumped.{read-whole}
use Rattle.kmap_runs.proofs.laws.compiled_texts_are_dumped.Goals as goal

pub returns-clause-tables : goal.returns-clause-tables
returns-clause-tables c = search (rules, read-whole, taken-whole)

pub returns-clause-narrow : goal.returns-clause-narrow
returns-clause-narrow c = search (rules, read-whole, taken-whole)
