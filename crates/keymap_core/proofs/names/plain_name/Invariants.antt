use Rattle.std.proofs.Common.{◌≡◌, take}
use Rattle.keymap_core.proofs.names.plain_name.Given as goal

abbrev pub invariant-loop-letter : goal.invariant-loop-letter
invariant-loop-letter l = l.name.items ≡ take l.letter-index l.letters
