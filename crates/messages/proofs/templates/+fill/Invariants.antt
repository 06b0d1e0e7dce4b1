use Rattle.std.proofs.Common.{length}
use Rattle.messages.proofs.templates.+fill.Given as goal

abbrev pub decreases-fill : goal.decreases-fill
decreases-fill l = length l.told.now
