use Rattle.keymap_draw.proofs.Common.{◌++◌, ◌∙◌, ap, arith, listed_finding}
use Rattle.keymap_draw.proofs.Loops.{numbered_at, numbered_end}
use Rattle.keymap_draw.proofs.lists.push_each_finding.Goals as goal

pub loop-i-preserved : goal.loop-i-preserved
loop-i-preserved c =
    numbered_at _ _ c.loop-i.i _ _ _ _ (omega arith)
    (c.in_ok-sheet.ensures
    ∙ ap (λ f. c.loop-i.sheet ++ listed_finding c.args.y c.loop-i.i f) c.index-findings-i.is)
    c.loop-i.invariant

pub returns : goal.returns
returns c = numbered_end _ _ c.loop-i.i _ _ (omega arith) c.loop-i.invariant
