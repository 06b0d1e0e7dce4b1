use Rattle.keymap_lint_text.proofs.Common.{◌≡◌, take}
use Rattle.std.specs.List.{count_by}
use Rattle.keymap_lint_text.specs.Told.{is_of, remark_of}
use Rattle.keymap_lint_text.proofs.remark.count.Given as goal

abbrev pub invariant-loop-remark : goal.invariant-loop-remark
invariant-loop-remark l =
    l.count ≡ count_by (λ r. is_of l.severity (remark_of r)) (take l.remark-index l.remarks)
