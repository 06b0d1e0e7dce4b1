use Rattle.keymap_text.proofs.Common.{rules}
use Rattle.keymap_text.proofs.Leading.{line_found, line_whole}
use Rattle.keymap_text.proofs.token.line_len.Goals as goal

pub returns-in-Some : goal.returns-in-Some
returns-in-Some c = search (rules, line_found)

pub returns-in-None : goal.returns-in-None
returns-in-None c = search (rules, line_whole)
