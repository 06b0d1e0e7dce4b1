use Rattle.std.proofs.Common.{rules}
use Rattle.keymap_lint.proofs.Lists.{flat_step}
use Rattle.keymap_lint.proofs.bare_digit.add_bare_digits.Goals as goal

pub loop-cell-preserved : goal.loop-cell-preserved
loop-cell-preserved c = search (rules, flat_step)
