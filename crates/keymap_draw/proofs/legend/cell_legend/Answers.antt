use Rattle.keymap_draw.proofs.Common.{rules}
use Rattle.keymap_draw.proofs.Texts.{cell_shown}
use Rattle.keymap_draw.proofs.legend.cell_legend.Goals as goal

pub returns-in-Act-clause-seen : goal.returns-in-Act-clause-seen
returns-in-Act-clause-seen c = search (rules, cell_shown)
