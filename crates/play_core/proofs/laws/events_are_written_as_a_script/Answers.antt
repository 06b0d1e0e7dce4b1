use Rattle.play_core.proofs.Spelling.{events-script}
use Rattle.play_core.proofs.laws.events_are_written_as_a_script.Goals as goal

pub returns : goal.returns
returns c = events-script
