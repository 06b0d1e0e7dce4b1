use Rattle.keymap_draw.proofs.Common.{◌≡◌, ◌++◌, take, flat_map, escaped}
use Rattle.keymap_draw.proofs.markup.push_characters.Given as goal

abbrev pub invariant-loop-c : goal.invariant-loop-c
invariant-loop-c l = l.text.items ≡ l.fn.text.items ++ flat_map escaped (take l.c-index l.characters)
