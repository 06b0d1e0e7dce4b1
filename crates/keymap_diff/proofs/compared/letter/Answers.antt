use Rattle.std.proofs.Common.{rules}
use Rattle.keymap_diff.proofs.Marks.{letter_one}
use Rattle.keymap_diff.proofs.compared.letter.Goals as goal

pub returns-then-ne : goal.returns-then-ne
returns-then-ne c = search (rules, letter_one)
