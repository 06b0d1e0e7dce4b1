use Rattle.keymap_lint_text.specs.Letters.{listed_item}
use Rattle.keymap_names.proofs.Shared.{piece_more}
use Rattle.keymap_lint_text.proofs.letters.list.Goals as goal

pub loop-i-preserved : goal.loop-i-preserved
loop-i-preserved c =
    piece_more (listed_item c.args.listed c.args.last.now c.args.characters.now) c.loop-i.i _ _ c.loop-i.invariant
    c.in_ok-push_item.ensures
