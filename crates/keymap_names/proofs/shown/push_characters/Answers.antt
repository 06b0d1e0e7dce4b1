use Rattle.std.specs.Prelude.{encode_utf8}
use Rattle.keymap_names.proofs.Lines.{next_given}
use Rattle.keymap_names.proofs.shown.push_characters.Goals as goal

pub loop-c-preserved : goal.loop-c-preserved
loop-c-preserved c =
    next_given encode_utf8 _ _ _ _ _ _ _ c.loop-c-test.true c.c-item.is c.loop-c.invariant
    c.in_ok-push_character.ensures
