use Rattle.keymap_lint.proofs.Ways.{held_way}
use Rattle.keymap_lint.proofs.typed.mark_held.Goals as goal

pub mark_all-requires-clause-way : goal.mark_all-requires-clause-way
mark_all-requires-clause-way c =
    held_way c.args.map.now c.args.modifier c.args.column c.in-Some.code c.requires.selects c.in-Some.ensures.0
    c.in-Some.ensures.1
