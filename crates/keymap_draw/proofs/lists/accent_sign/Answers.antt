use Rattle.keymap_draw.proofs.Texts.{mark_shown}
use Rattle.keymap_draw.proofs.lists.accent_sign.Goals as goal

pub returns-clause-seen : goal.returns-clause-seen
returns-clause-seen c = rw c.marked.ensures (mark_shown c.args.index c.requires).each
