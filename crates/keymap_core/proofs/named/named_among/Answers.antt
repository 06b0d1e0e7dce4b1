use Rattle.keymap_core.proofs.Common.{rules}
use Rattle.keymap_core.proofs.CodeNames.{none-more, first-found}
use Rattle.keymap_core.proofs.named.named_among.Goals as goal

pub returns-then-is_name_of_code : goal.returns-then-is_name_of_code
returns-then-is_name_of_code c = search (rules, first-found)

pub loop-code-preserved : goal.loop-code-preserved
loop-code-preserved c = search (rules, none-more)
