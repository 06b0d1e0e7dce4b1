use Rattle.keymap_lint_text.proofs.Common.{◌≡◌, ◌++◌, take, flat_map, of_diagnostic}
use Rattle.keymap_lint_text.specs.Told.{remarks_of}
use Rattle.keymap_lint_text.proofs.told.push_diagnostics.Given as goal

abbrev pub invariant-loop-diagnostic : goal.invariant-loop-diagnostic
invariant-loop-diagnostic l =
    remarks_of l.list.items
    ≡ remarks_of l.fn.list.items
    ++ flat_map (of_diagnostic l.source l.lint) (take l.diagnostic-index l.lint.list.items)
