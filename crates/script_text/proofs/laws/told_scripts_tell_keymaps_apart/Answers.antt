use Rattle.script_text.proofs.DiffScripts.{same-script, telling-replays}
use Rattle.script_text.proofs.laws.told_scripts_tell_keymaps_apart.Goals as goal

pub returns-clause-differ : goal.returns-clause-differ
returns-clause-differ c = telling-replays

pub returns-clause-same : goal.returns-clause-same
returns-clause-same c = same-script
