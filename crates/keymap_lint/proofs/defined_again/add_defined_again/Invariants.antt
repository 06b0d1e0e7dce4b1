use Rattle.keymap_lint.proofs.Common.{◌≡◌, ◌++◌, take, flat_map, again}
use Rattle.keymap_lint.proofs.defined_again.add_defined_again.Given as goal

-- what is said of the definitions that were passed
abbrev pub invariant-loop-definition : goal.invariant-loop-definition
invariant-loop-definition l =
    l.found.items ≡ l.fn.found.items ++ flat_map (again l.text) (take l.definition-index l.text.definitions)
