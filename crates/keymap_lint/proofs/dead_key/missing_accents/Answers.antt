use Rattle.keymap_lint.proofs.Common.{rules}
use Rattle.keymap_lint.proofs.Missing.{missing_none, no_some}
use Rattle.keymap_lint.proofs.dead_key.missing_accents.Goals as goal

pub returns-then-is_none : goal.returns-then-is_none
returns-then-is_none c = search (rules, missing_none, no_some)
