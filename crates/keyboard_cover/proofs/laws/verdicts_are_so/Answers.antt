use Rattle.keyboard_cover.proofs.Verdicts.{verdicts_are_so}
use Rattle.keyboard_cover.proofs.laws.verdicts_are_so.Goals as goal

pub returns : goal.returns
returns c = verdicts_are_so c.sights_are_reachable.ensures.allowed
