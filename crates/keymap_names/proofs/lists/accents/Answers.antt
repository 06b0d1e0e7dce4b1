use Rattle.keymap_names.specs.Lists.{listed_text}
use Rattle.keymap_names.proofs.Pieces.{piece_more}
use Rattle.keymap_names.proofs.lists.accents.Goals as goal

pub loop-i-preserved : goal.loop-i-preserved
loop-i-preserved c =
    piece_more (listed_text c.args.accents.now) c.loop-i.i _ _ c.loop-i.invariant c.in_ok-push_listed.ensures
