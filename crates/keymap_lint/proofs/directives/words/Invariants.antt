use Rattle.keymap_lint.proofs.Common.{◌≡◌, flat_map, take}
use Rattle.keymap_lint.specs.Directives.{words_of}
use Rattle.keymap_lint.proofs.directives.words.Given as goal

-- the words of the directives that were passed
abbrev pub invariant-loop-directive : goal.invariant-loop-directive
invariant-loop-directive l = l.words.items ≡ flat_map (words_of l.text) (take l.directive-index l.directives)
