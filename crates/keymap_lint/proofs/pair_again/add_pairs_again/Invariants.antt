use Rattle.keymap_lint.proofs.Common.{◌≡◌, ◌++◌, gathered, accent_pairs}
use Rattle.keymap_lint.proofs.pair_again.add_pairs_again.Given as goal

-- what is said of the pairs of the accents so far
abbrev pub invariant-loop-index : goal.invariant-loop-index
invariant-loop-index l = l.found.items ≡ l.fn.found.items ++ gathered (accent_pairs l.text) l.index
