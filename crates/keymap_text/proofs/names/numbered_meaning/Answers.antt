use Rattle.keymap_text.proofs.Common.{rules}
use Rattle.keymap_text.proofs.Meanings.{function_means, screen_means}
use Rattle.keymap_text.proofs.names.numbered_meaning.Goals as goal

pub returns-then-n-le96 : goal.returns-then-n-le96
returns-then-n-le96 c = search (rules, function_means)

pub returns-then-n-le16 : goal.returns-then-n-le16
returns-then-n-le16 c = search (rules, screen_means)
