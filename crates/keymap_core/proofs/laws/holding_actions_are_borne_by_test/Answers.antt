use Rattle.keymap_core.proofs.BorneTests.{borne-same}
use Rattle.keymap_core.proofs.laws.holding_actions_are_borne_by_test.Goals as goal

pub returns : goal.returns
returns c = borne-same
