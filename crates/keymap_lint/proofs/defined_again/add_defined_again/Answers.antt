use Rattle.std.proofs.Common.{rules}
use Rattle.keymap_lint.proofs.Lists.{flat_step}
use Rattle.keymap_lint.proofs.defined_again.add_defined_again.Goals as goal

pub loop-definition-preserved : goal.loop-definition-preserved
loop-definition-preserved c = search (rules, flat_step)
