use Rattle.keymap_lint.proofs.Common.{◌≡◌, ◌++◌, gathered}
use Rattle.keymap_lint.specs.Directives.{word_at}
use Rattle.keymap_lint.proofs.directives.add_words_in.Given as goal

-- the words that begin so far
abbrev pub invariant-loop-k : goal.invariant-loop-k
invariant-loop-k l = l.words.items ≡ l.fn.words.items ++ gathered (word_at l.bytes l.scope l.start) l.k
