use Rattle.keymap_tables.proofs.Common.{rules}
use Rattle.keymap_tables.proofs.Rows.{placed-end}
use Rattle.keymap_tables.proofs.row.EntryRow.define.Goals as goal

pub returns : goal.returns
returns g c = search (rules, placed-end)
