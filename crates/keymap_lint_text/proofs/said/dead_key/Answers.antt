use Rattle.keymap_lint_text.specs.Said.{dead_key_text}
use Rattle.keymap_lint_text.proofs.said.dead_key.Goals as goal

pub returns : goal.returns
unfolding dead_key_text
returns c =
    rw (c.if-defines_some.false, ← c.in_ok-names.ensures, ← c.as_slice-else-defines_some.ensures.value)
    c.filled-else-defines_some.ensures
