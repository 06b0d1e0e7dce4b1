use Rattle.kmap_runs.proofs.Replayed.{answer-replays, answer-replays-between}
use Rattle.kmap_runs.proofs.laws.found_scripts_deliver_the_answer.Goals as goal

pub returns-clause-alone : goal.returns-clause-alone
returns-clause-alone c = answer-replays

pub returns-clause-between : goal.returns-clause-between
returns-clause-between c = answer-replays-between
