use Rattle.keymap_tables.proofs.Wideness.{first-cell, first-number}
use Rattle.keymap_tables.proofs.Common.{rules}
use Rattle.keymap_tables.proofs.narrow.too_wide.Goals as goal

pub returns-in-Some : goal.returns-in-Some
returns-in-Some c = first-cell c.args.map.now c.in-Some.slot c.in-Some.column c.in-Some.ensures.0 c.in-Some.ensures.1

pub returns-in-Some-first_wide : goal.returns-in-Some-first_wide
returns-in-Some-first_wide c = search (rules, first-number)
