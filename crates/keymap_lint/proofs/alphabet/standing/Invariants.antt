use Rattle.keymap_lint.proofs.Common.{◌≡◌, ◌≤◌, array_vec_len, gathered}
use Rattle.keymap_lint.specs.Alphabets.{standing_letter}
use Rattle.keymap_lint.proofs.alphabet.standing.Given as goal

-- those among the letters so far
abbrev pub invariant-loop-letter : goal.invariant-loop-letter
invariant-loop-letter l = record {
  found : l.standing.items ≡ gathered (standing_letter l.letters l.number) l.letter;
  room : array_vec_len l.standing ≤ l.letter;
}
