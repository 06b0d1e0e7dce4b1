use Rattle.console_states.proofs.Shared.{searched-back}
use Rattle.tests.proofs.calls.searches.tells_the_way.Goals as goal

pub go_out-given-requires-clause-back : goal.go_out-given-requires-clause-back
go_out-given-requires-clause-back g c = searched-back _ _ _ _ c.in_ok-met.ensures.searched
