use Rattle.kmap_runs.proofs.Replayed.{typing-delivers}
use Rattle.kmap_runs.proofs.laws.typing_scripts_deliver_the_events.Goals as goal

pub returns : goal.returns
returns c = typing-delivers
