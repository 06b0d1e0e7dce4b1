use Rattle.keymap_lint.proofs.Common.{◌≡◌, ◌++◌, flat_map, take}
use Rattle.keymap_lint.specs.Directives.{wrong}
use Rattle.keymap_lint.proofs.ignored.add_wrong.Given as goal

-- what is said of the directives that were passed
abbrev pub invariant-loop-directive : goal.invariant-loop-directive
invariant-loop-directive l =
    l.found.items ≡ l.fn.found.items ++ flat_map (wrong l.text) (take l.directive-index l.directives)
