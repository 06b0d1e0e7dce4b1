use Rattle.keymap_tables.proofs.Common.{rules}
use Rattle.keymap_tables.proofs.RowsFilled.{count-back}
use Rattle.keymap_tables.proofs.file.raised.Goals as goal

pub returns : goal.returns
returns c = search (rules, count-back)
