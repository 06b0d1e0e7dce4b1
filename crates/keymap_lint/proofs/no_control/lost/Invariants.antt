use Rattle.keymap_lint.proofs.Common.{◌≡◌, ◌≤◌, array_vec_len, gathered}
use Rattle.keymap_lint.specs.Alphabets.{lost_letter}
use Rattle.keymap_lint.proofs.no_control.lost.Given as goal

-- those among the letters so far
abbrev pub invariant-loop-letter : goal.invariant-loop-letter
invariant-loop-letter l = record {
  found : l.lost.items ≡ gathered (lost_letter l.there l.typed) l.letter;
  room : array_vec_len l.lost ≤ l.letter;
}
