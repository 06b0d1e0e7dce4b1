use Rattle.keymap_draw.proofs.Common.{◌≡◌, ◌++◌, take, flat_map, escaped}
use Rattle.keymap_draw.proofs.markup.push_escaped.Given as goal

abbrev pub invariant-loop-byte : goal.invariant-loop-byte
invariant-loop-byte l = l.text.items ≡ l.fn.text.items ++ flat_map escaped (take l.byte-index l.bytes)
