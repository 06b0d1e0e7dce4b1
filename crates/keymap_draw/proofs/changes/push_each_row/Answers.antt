use Rattle.keymap_draw.proofs.Common.{◌++◌, ◌∙◌, ap, arith}
use Rattle.keymap_draw.specs.Changes.{listed_row}
use Rattle.keymap_draw.proofs.Loops.{numbered_at, numbered_end}
use Rattle.keymap_draw.proofs.changes.push_each_row.Goals as goal

pub loop-i-preserved : goal.loop-i-preserved
loop-i-preserved c =
    numbered_at _ _ c.loop-i.i _ _ _ _ (omega arith)
    (c.in_ok-sheet.ensures
    ∙ ap (λ said. c.loop-i.sheet ++ listed_row c.args.y c.loop-i.i said) (c.as_slice.ensures.characters ∙ c.index-rows-i.is))
    c.loop-i.invariant

pub returns : goal.returns
returns c = numbered_end _ _ c.loop-i.i _ _ (omega arith) c.loop-i.invariant
