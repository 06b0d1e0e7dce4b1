use Rattle.std.proofs.Common.{rules}
use Rattle.console_states.proofs.search.decide.Goals as goal

-- the search begins at the start
pub conclude-requires-clause-ended : goal.conclude-requires-clause-ended
conclude-requires-clause-ended c = search rules
