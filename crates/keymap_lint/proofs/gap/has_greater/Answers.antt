use Rattle.keymap_lint.proofs.Common.{arith, sym, ◌∙◌}
use Rattle.keymap_core.proofs.Shared.{any-some}
use Rattle.keymap_lint.specs.Letters.{is_greater}
use Rattle.keymap_lint.proofs.gap.has_greater.Goals as goal

pub returns-then-is_greater : goal.returns-then-is_greater
returns-then-is_greater c =
    sym (any-some (is_greater c.args.text.now c.args.slot) c.loop-key.key 128 (omega arith)
    (sym c.is_greater.ensures ∙ c.if-is_greater.true))
