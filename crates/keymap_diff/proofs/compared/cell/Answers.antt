use Rattle.std.proofs.Common.{arith, rules, ◌/◌, ◌%◌}
use Rattle.std.proofs.lemmas.Grind.{common_steps}
use Rattle.keymap_diff.proofs.Marks.{cell_none, cell_one, reads_cell}
use Rattle.keymap_diff.proofs.compared.cell.Goals as goal

pub returns-then-ne : goal.returns-then-ne
returns-then-ne c =
    cell_one c.args.versions.now (c.args.place / 9) (c.args.place % 9) c.args.place _ _ c.is_unseen.result (omega arith)
    (omega arith) (omega arith) (first_of (search rules, grind (arith, common_steps)))
    (first_of (search rules, grind (arith, common_steps))) (first_of (search rules, grind (arith, common_steps)))
    c.is_unseen.ensures

pub returns-else-ne : goal.returns-else-ne
returns-else-ne c =
    let v = c.args.versions.now in let slot = c.args.place / 9 in let column = c.args.place % 9 in
    cell_none v slot column c.args.place c.index-entry-column.result c.index-entry-column-2.result (omega arith)
    (omega arith) (omega arith)
    (reads_cell v.old.now c.entry.result.now slot column _ c.entry.ensures (search rules) c.index-entry-column.is)
    (reads_cell v.new.now c.entry-2.result.now slot column _ c.entry-2.ensures (search rules)
    c.index-entry-column-2.is) (search rules)
