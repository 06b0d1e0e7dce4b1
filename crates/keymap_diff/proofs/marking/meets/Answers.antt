use Rattle.std.proofs.Common.{subst, sym}
use Rattle.keymap_diff.specs.Changes.{MeetsChange}
use Rattle.keymap_diff.proofs.marking.meets.Goals as goal

pub returns-in-Cell : goal.returns-in-Cell
returns-in-Cell c e =
    subst (λ x. MeetsChange x c.args.map.now) (sym c.in-Cell.is) (c.can_see.ensures.some c.requires.some e)

pub returns-in-Pair : goal.returns-in-Pair
returns-in-Pair c e =
    subst (λ x. MeetsChange x c.args.map.now) (sym c.in-Pair.is) (c.can_see-in-Pair.ensures.some c.requires.some e)
