use Rattle.std.proofs.Common.{rules}
use Rattle.keymap_lint.proofs.Untyped.{told_no, told_yes}
use Rattle.keymap_lint.proofs.typed.told.Goals as goal

pub returns-then-has_most_letters : goal.returns-then-has_most_letters
returns-then-has_most_letters c = search (rules, told_yes)

pub returns-else-has_most_letters : goal.returns-else-has_most_letters
returns-else-has_most_letters c = search (rules, told_no)
