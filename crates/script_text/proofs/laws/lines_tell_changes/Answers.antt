use Rattle.script_text.proofs.Differing.{lines_tell_changes}
use Rattle.script_text.proofs.laws.lines_tell_changes.Goals as goal

pub returns : goal.returns
returns c = lines_tell_changes
