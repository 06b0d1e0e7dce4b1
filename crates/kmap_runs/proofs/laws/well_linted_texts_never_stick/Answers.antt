use Rattle.kmap_runs.proofs.Common.{not-true, rules}
use Rattle.kmap_runs.proofs.laws.well_linted_texts_never_stick.Goals as goal

pub returns : goal.returns
returns c = search (rules, not-true)
