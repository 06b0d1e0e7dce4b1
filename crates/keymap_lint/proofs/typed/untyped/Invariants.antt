use Rattle.keymap_lint.proofs.Common.{◌≡◌, ◌≤◌, array_vec_len, gathered}
use Rattle.keymap_lint.specs.Ways.{untyped_character}
use Rattle.keymap_lint.proofs.typed.untyped.Given as goal

-- those among the characters so far
abbrev pub invariant-loop-c : goal.invariant-loop-c
invariant-loop-c l = record {
  found : l.characters.items ≡ gathered (untyped_character l.typed) l.c;
  room : array_vec_len l.characters ≤ l.c;
}
