use Rattle.kmap_runs.proofs.Replayed.{shows-script}
use Rattle.kmap_runs.proofs.laws.printed_demonstrations_leave_a_modifier_on.Goals as goal

pub returns : goal.returns
returns c = shows-script
