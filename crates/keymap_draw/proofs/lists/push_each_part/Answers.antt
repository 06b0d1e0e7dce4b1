use Rattle.keymap_draw.proofs.Common.{◌+◌, ◌++◌, ◌∙◌, ap, arith}
use Rattle.keymap_draw.specs.Lists.{composed}
use Rattle.keymap_draw.proofs.Loops.{numbered_at, numbered_end}
use Rattle.keymap_draw.proofs.lists.push_each_part.Goals as goal

pub loop-i-preserved : goal.loop-i-preserved
loop-i-preserved c =
    numbered_at _ _ c.loop-i.i _ _ _ _ (omega arith)
    (c.in_ok-sheet.ensures ∙ ap (λ x. c.loop-i.sheet ++ composed (c.loop-i.i + 1) x) c.part_of.ensures)
    c.loop-i.invariant

pub returns : goal.returns
returns c = numbered_end _ _ c.loop-i.i _ _ (omega arith) c.loop-i.invariant
