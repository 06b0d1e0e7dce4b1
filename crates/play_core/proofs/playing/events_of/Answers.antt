use Rattle.play_core.proofs.ScriptLines.{events_few}
use Rattle.play_core.proofs.playing.events_of.Goals as goal

pub returns-in-Ok-clause-few : goal.returns-in-Ok-clause-few
returns-in-Ok-clause-few c = events_few _ _ c.in-Ok.ensures.ok
