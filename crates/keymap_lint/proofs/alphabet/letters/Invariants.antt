use Rattle.keymap_lint.proofs.Common.{◌≡◌, ◌≤◌, array_vec_len, gathered}
use Rattle.keymap_lint.specs.Alphabets.{letter_in}
use Rattle.keymap_lint.proofs.alphabet.letters.Given as goal

-- those of the slots so far
abbrev pub invariant-loop-number : goal.invariant-loop-number
invariant-loop-number l = record {
  found : l.letters.items ≡ gathered (letter_in l.text l.alphabet) l.number;
  room : array_vec_len l.letters ≤ l.number;
}
