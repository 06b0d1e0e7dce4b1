use Rattle.keymap_lint.proofs.Common.{◌≡◌, ◌≤◌, array_vec_len, gathered}
use Rattle.keymap_lint.specs.Alphabets.{holder}
use Rattle.keymap_lint.proofs.alphabet.holders.Given as goal

-- those among the slots so far
abbrev pub invariant-loop-number : goal.invariant-loop-number
invariant-loop-number l = record {
  found : l.slots.items ≡ gathered (holder l.text l.alphabet l.letter) l.number;
  room : array_vec_len l.slots ≤ l.number;
}
