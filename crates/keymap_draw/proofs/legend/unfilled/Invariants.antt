use Rattle.keymap_draw.proofs.Common.{◌≡◌, ◌≤◌, ◌==◌, length, take, not, filter}
use Rattle.keymap_draw.proofs.legend.unfilled.Given as goal

abbrev pub invariant-loop-letter : goal.invariant-loop-letter
invariant-loop-letter l = record {
  letters : l.legend.items ≡ filter (λ letter. not (letter == 32)) (take l.letter-index l.name);
  few : length l.legend.items ≤ l.letter-index;
}
