use Rattle.keymap_lint_text.proofs.Common.{◌≡◌, take, flat_map, printed_of}
use Rattle.keymap_lint_text.specs.Told.{remark_of}
use Rattle.keymap_lint_text.proofs.printer.printed.Given as goal

abbrev pub invariant-loop-remark : goal.invariant-loop-remark
invariant-loop-remark l =
    l.text.items ≡ flat_map (λ r. printed_of l.file l.source (remark_of r)) (take l.remark-index l.remarks)
