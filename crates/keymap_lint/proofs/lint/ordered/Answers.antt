use Rattle.std.proofs.Common.{rules}
use Rattle.keymap_lint.proofs.lint.ordered.Goals as goal

pub returns : goal.returns
returns c = search rules
