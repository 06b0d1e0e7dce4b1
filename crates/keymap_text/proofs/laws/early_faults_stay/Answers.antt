use Rattle.keymap_text.proofs.Verdicts.{early_stays_in}
use Rattle.keymap_text.proofs.laws.early_faults_stay.Goals as goal

pub returns : goal.returns
returns c = early_stays_in
