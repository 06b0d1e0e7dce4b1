use Rattle.keymap_lint.proofs.Common.{◌≡◌, ◌++◌, gathered}
use Rattle.keymap_lint.specs.Octal.{octal_pair}
use Rattle.keymap_lint.proofs.octal_like.add_pairs.Given as goal

-- what is said of the pairs so far
abbrev pub invariant-loop-place : goal.invariant-loop-place
invariant-loop-place l = l.found.items ≡ l.fn.found.items ++ gathered (octal_pair l.text l.first l.pairs) l.place
