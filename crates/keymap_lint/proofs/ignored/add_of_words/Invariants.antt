use Rattle.keymap_lint.proofs.Common.{◌≡◌, ◌++◌, gathered}
use Rattle.keymap_lint.specs.Directives.{of_number}
use Rattle.keymap_lint.proofs.ignored.add_of_words.Given as goal

-- what is said of the words that were passed
abbrev pub invariant-loop-number : goal.invariant-loop-number
invariant-loop-number l = l.found.items ≡ l.fn.found.items ++ gathered (of_number l.text l.words l.keepers) l.number
