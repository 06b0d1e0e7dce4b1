use Rattle.keymap_lint.proofs.Common.{◌≡◌, ◌++◌, gathered, zero_accent}
use Rattle.keymap_lint.proofs.zero_accent.add_zero_accents.Given as goal

-- what is said of the accents so far
abbrev pub invariant-loop-accent : goal.invariant-loop-accent
invariant-loop-accent l = l.found.items ≡ l.fn.found.items ++ gathered (zero_accent l.text l.cells) l.accent
