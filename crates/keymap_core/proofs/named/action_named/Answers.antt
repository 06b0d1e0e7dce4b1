use Rattle.keymap_core.proofs.Common.{rules}
use Rattle.keymap_core.proofs.Meanings.{find-names}
use Rattle.keymap_core.proofs.named.action_named.Goals as goal

pub returns : goal.returns
returns c = search (rules, find-names)
