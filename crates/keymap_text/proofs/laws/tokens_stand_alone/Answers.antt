use Rattle.keymap_text.proofs.Alone.{stands_alone, skipped_separates}
use Rattle.keymap_text.proofs.laws.tokens_stand_alone.Goals as goal

pub returns : goal.returns
returns c = record { found = stands_alone; skipped = skipped_separates }
