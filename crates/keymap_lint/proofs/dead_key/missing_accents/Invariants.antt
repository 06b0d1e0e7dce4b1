use Rattle.keymap_lint.proofs.Common.{◌≡◌, ◌≤◌, array_vec_len, gathered, missing_accent}
use Rattle.keymap_lint.proofs.dead_key.missing_accents.Given as goal

-- the missing accents among those so far
abbrev pub invariant-loop-accent : goal.invariant-loop-accent
invariant-loop-accent l = record {
  found : l.accents.items ≡ gathered (missing_accent l.text l.cells) l.accent;
  room : array_vec_len l.accents ≤ l.accent;
}
