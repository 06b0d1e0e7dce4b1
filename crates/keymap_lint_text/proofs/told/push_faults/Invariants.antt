use Rattle.keymap_lint_text.proofs.Common.{◌≡◌, ◌++◌, take, flat_map, of_fault}
use Rattle.keymap_lint_text.specs.Told.{remarks_of}
use Rattle.keymap_lint_text.proofs.told.push_faults.Given as goal

abbrev pub invariant-loop-found : goal.invariant-loop-found
invariant-loop-found l =
    remarks_of l.list.items ≡ remarks_of l.fn.list.items ++ flat_map (of_fault l.source) (take l.found-index l.faults)
