use Rattle.keymap_lint.proofs.Common.{◌≡◌, ◌++◌, gathered, pair_again}
use Rattle.keymap_lint.proofs.pair_again.add_pairs.Given as goal

-- what is said of the pairs so far
abbrev pub invariant-loop-place : goal.invariant-loop-place
invariant-loop-place l =
    l.found.items ≡ l.fn.found.items ++ gathered (pair_again l.text l.accent l.first l.pairs) l.place
