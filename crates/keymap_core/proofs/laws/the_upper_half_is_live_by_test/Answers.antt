use Rattle.keymap_core.proofs.BorneTests.{live-same}
use Rattle.keymap_core.proofs.laws.the_upper_half_is_live_by_test.Goals as goal

pub returns : goal.returns
returns c = live-same
