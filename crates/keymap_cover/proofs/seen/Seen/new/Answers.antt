use Rattle.keymap_cover.proofs.Marking.{none-seen-by}
use Rattle.keymap_cover.proofs.seen.Seen.new.Goals as goal

pub returns : goal.returns
returns c =
    λ x. none-seen-by _ _ _ 2048 1024 x c.in_ok-from_array.ensures.items c.in_ok-from_array-2.ensures.items
    c.new.ensures.items
