use Rattle.std.specs.Prelude.{◌≡◌, ◌++◌, take, encode_utf8}
use Rattle.std.specs.List.{flat_map}
use Rattle.keymap_names.proofs.shown.push_characters.Given as goal

abbrev pub invariant-loop-c : goal.invariant-loop-c
invariant-loop-c l = l.text.items ≡ l.fn.text.items ++ flat_map encode_utf8 (take l.c-index l.characters)
