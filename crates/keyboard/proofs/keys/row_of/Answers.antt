use Rattle.std.proofs.Common.{subst}
use Rattle.keyboard.specs.Rows.{IsRowOf}
use Rattle.keyboard.proofs.Told.{row_told}
use Rattle.keyboard.proofs.keys.row_of.Goals as goal

pub returns : goal.returns
returns c = subst (IsRowOf _) c.get.ensures.same (row_told _ _ c.get.ensures.in_range)
