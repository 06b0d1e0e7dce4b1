use Rattle.kmap_runs.proofs.Replayed.{comes-back}
use Rattle.kmap_runs.proofs.laws.typed_sentences_come_back.Goals as goal

pub returns : goal.returns
returns c = comes-back
