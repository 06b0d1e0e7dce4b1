use Rattle.keymap_lint.proofs.Common.{◌≡◌, take, flat_map, cells_of}
use Rattle.keymap_lint.proofs.cells.cells_in_force.Given as goal

-- the cells of the definitions that were passed
abbrev pub invariant-loop-definition : goal.invariant-loop-definition
invariant-loop-definition l =
    l.cells.items ≡ flat_map (cells_of l.text) (take l.definition-index l.text.definitions)
