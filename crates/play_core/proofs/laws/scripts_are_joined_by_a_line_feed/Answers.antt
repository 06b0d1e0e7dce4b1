use Rattle.play_core.proofs.Spelling.{script-joined}
use Rattle.play_core.proofs.laws.scripts_are_joined_by_a_line_feed.Goals as goal

pub returns : goal.returns
returns c = script-joined
