use Rattle.kmap_runs.proofs.Replayed.{typing-types}
use Rattle.kmap_runs.proofs.laws.typing_scripts_type_the_sentence.Goals as goal

pub returns : goal.returns
returns c = typing-types
