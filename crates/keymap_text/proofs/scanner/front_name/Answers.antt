use Rattle.keymap_text.proofs.Common.{rules}
use Rattle.keymap_text.proofs.Fronts.{word_fronts}
use Rattle.keymap_text.proofs.scanner.front_name.Goals as goal

pub returns-in-Some : goal.returns-in-Some
returns-in-Some c = search (rules, word_fronts)
