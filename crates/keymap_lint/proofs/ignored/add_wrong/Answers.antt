use Rattle.std.proofs.Common.{rules}
use Rattle.keymap_lint.proofs.Lists.{flat_step}
use Rattle.keymap_lint.proofs.ignored.add_wrong.Goals as goal

pub loop-directive-preserved : goal.loop-directive-preserved
loop-directive-preserved c = search (rules, flat_step)
