use Rattle.keymap_draw.proofs.Texts.{character_shown}
use Rattle.keymap_draw.proofs.legend.character_legend.Goals as goal

pub returns-clause-seen : goal.returns-clause-seen
returns-clause-seen c = rw c.legend_of.ensures (character_shown c.args.c c.ranges.c.0).each
