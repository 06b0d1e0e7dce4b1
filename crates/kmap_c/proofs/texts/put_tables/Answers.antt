use Rattle.keymap_text.proofs.Shared.{not_both}
use Rattle.kmap_c.proofs.texts.put_tables.Goals as goal

pub returns-in-Err : goal.returns-in-Err
returns-in-Err c =
    absurd (not_both c.args.text.now c.requires.0 c.in-Err.field-0 c.requires.1 (c.in-Err.ensures c.clear.ensures))
