use Rattle.keymap_lint.proofs.Common.{rules}
use Rattle.keymap_lint.proofs.Tables.{slot_in}
use Rattle.keymap_lint.proofs.spelled.SpelledText.slot.Goals as goal

pub returns : goal.returns
returns c = search (rules, slot_in)
