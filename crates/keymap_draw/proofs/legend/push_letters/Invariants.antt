use Rattle.keymap_draw.proofs.Common.{◌≡◌, ◌++◌, take}
use Rattle.keymap_draw.proofs.legend.push_letters.Given as goal

abbrev pub invariant-loop-letter : goal.invariant-loop-letter
invariant-loop-letter l = l.legend.items ≡ l.fn.legend.items ++ take l.letter-index l.letters
