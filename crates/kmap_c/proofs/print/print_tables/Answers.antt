use Rattle.keymap_text.specs.Printed.{key_lines}
use Rattle.kmap_c.proofs.print.print_tables.Goals as goal

pub returns : goal.returns
returns c =
    λ m shows. c.print_accents.ensures m (key_lines m) c.args.text.now shows (c.print_keys-keys.ensures.text m shows)
