use Rattle.kmap_runs.proofs.Common.{rules}
use Rattle.kmap_runs.proofs.Replayed.{taken-whole}
use Rattle.kmap_runs.proofs.laws.laid_out_texts_spell_the_same.Goals as goal

pub returns-clause-printed : goal.returns-clause-printed
returns-clause-printed c = search (rules, taken-whole)

pub returns-clause-changed : goal.returns-clause-changed
returns-clause-changed c = search (rules, taken-whole)
