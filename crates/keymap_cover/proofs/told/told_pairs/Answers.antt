use Rattle.keymap_cover.proofs.Common.{◌++◌, ap, ◌∙◌, pairs_in}
use Rattle.keymap_cover.proofs.told.told_pairs.Goals as goal

pub returns : goal.returns
returns c =
    c.in_ok-add_all_pairs.ensures ∙ ap (λ z. z ++ pairs_in c.args.map.now) c.new-sights.ensures.items
