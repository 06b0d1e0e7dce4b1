use Rattle.keymap_core.proofs.Common.{ap, sym, ◌∙◌, holding_action, same_action, is_cell_of_action}
use Rattle.keymap_core.proofs.bearers.is_held.Goals as goal

pub returns-in-Act : goal.returns-in-Act
returns-in-Act c =
    c.eq.ensures ∙ ap (same_action c.in-Act.action) c.action.ensures
    ∙ ap (is_cell_of_action (holding_action c.args.holding)) (sym c.in-Act.is)
