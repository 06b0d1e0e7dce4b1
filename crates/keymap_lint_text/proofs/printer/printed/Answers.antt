use Rattle.keymap_lint_text.proofs.Common.{◌∙◌, ap, arith, flat_map, printed_of, sym, take_all}
use Rattle.keymap_lint_text.proofs.Listed.{flat_map_of}
use Rattle.keymap_lint_text.specs.Told.{remark_of}
use Rattle.keymap_lint_text.proofs.printer.printed.Goals as goal

pub returns : goal.returns
returns c =
    let all = c.args.remarks.now in
    c.loop-remark.invariant
    ∙ ap (flat_map (λ r. printed_of c.args.file.now c.args.source.now (remark_of r)))
    (take_all c.loop-remark.remark-index all (omega (arith, c.loop-remark-test.false)))
    ∙ sym (flat_map_of (printed_of c.args.file.now c.args.source.now) remark_of all)
