use Rattle.keymap_draw.proofs.Common.{length}
use Rattle.keymap_draw.proofs.sheet.+push_filled.Given as goal

abbrev pub decreases-push_filled : goal.decreases-push_filled
decreases-push_filled l = length l.contents.now
