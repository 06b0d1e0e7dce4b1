use Rattle.keymap_lint.proofs.Ways.{all_typed_beside}
use Rattle.keymap_lint.proofs.typed.typed_beside.Goals as goal

pub returns-else-is_held : goal.returns-else-is_held
returns-else-is_held c =
    all_typed_beside c.args.map.now c.args.way.holder c.args.way.column c.args.code _ _ c.requires.way c.requires.code
    (c.is_held.ensures c.if-is_held.false) c.cell_in.ensures c.typed_by.ensures
