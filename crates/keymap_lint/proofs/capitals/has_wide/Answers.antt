use Rattle.keymap_lint.proofs.Common.{arith, sym, ◌∙◌}
use Rattle.keymap_core.proofs.Shared.{any-some}
use Rattle.keymap_lint.specs.Capitals.{is_wide_slot}
use Rattle.keymap_lint.proofs.capitals.has_wide.Goals as goal

pub returns-then-is_wide_slot : goal.returns-then-is_wide_slot
returns-then-is_wide_slot c =
    sym (any-some (is_wide_slot c.args.map.now) c.loop-number.number 256 (omega arith)
    (sym c.is_wide_slot.ensures ∙ c.if-is_wide_slot.true))
