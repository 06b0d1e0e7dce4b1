use Rattle.keymap_check.proofs.Common.{ap, is_holding, sym, ◌∙◌}
use Rattle.keymap_core.specs.Actions.{same_action}
use Rattle.keymap_check.proofs.kind.is_holding.Goals as goal

pub returns-in-Act : goal.returns-in-Act
returns-in-Act c =
    c.eq.ensures ∙ ap (same_action c.in-Act.action) c.action.ensures ∙ sym (ap (is_holding c.args.holding) c.in-Act.is)
